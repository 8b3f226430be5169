use Rattle.std.proofs.Common.{ap, ◌∙◌}
use Rattle.policy.specs.PolicyTable.{table_of, with_policy}
use Rattle.policy.proofs.Tables.{names_shown, table_of-insert_entry}
use Rattle.policy.proofs.policies.Policies.set.Goals as goal

pub invariant_of-self : goal.invariant_of-self
invariant_of-self g c = names_shown c.insert.new.self.entries c.insert.ensures.unique

pub returns-in-Ok-clause-ok : goal.returns-in-Ok-clause-ok
returns-in-Ok-clause-ok g c =
    ap table_of c.in-Ok.ensures.entries ∙ table_of-insert_entry c.in_ok-name.name c.in_ok-rules.rules c.self.inside.policies.entries
    ∙ λ i. with_policy (c.self.view_is i) (c.in_ok-name.ensures.1 i) (c.in_ok-rules.ensures i)
