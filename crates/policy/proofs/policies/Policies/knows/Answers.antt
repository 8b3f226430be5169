use Rattle.std.proofs.Common.{sym, ◌∙◌}
use Rattle.policy.proofs.Tables.{known_there}
use Rattle.policy.proofs.policies.Policies.knows.Goals as goal

pub returns-else-is_built_in : goal.returns-else-is_built_in
returns-else-is_built_in g c =
    c.contains_key.ensures ∙ known_there c.self.inside.policies.entries c.args.self.now c.self.view_is c.args.name (sym c.is_built_in.ensures ∙ c.if-is_built_in.false)
