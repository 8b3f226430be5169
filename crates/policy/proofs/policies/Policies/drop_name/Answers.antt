use Rattle.std.proofs.Common.{ap, ◌∙◌}
use Rattle.policy.specs.PolicyTable.{table_of, without_policy}
use Rattle.policy.proofs.Tables.{names_shown, table_of-dropped}
use Rattle.policy.proofs.policies.Policies.drop_name.Goals as goal

pub invariant_of-self : goal.invariant_of-self
invariant_of-self g c = names_shown c.shift_remove.new.self.entries c.shift_remove.ensures.unique

pub returns-clause-ok : goal.returns-clause-ok
returns-clause-ok g c =
    ap table_of c.shift_remove.ensures.entries ∙ table_of-dropped c.in_ok-name.name c.self.inside.policies.entries c.self.invariant
    ∙ λ i. without_policy (c.self.view_is i) (c.in_ok-name.ensures.1 i)
