use Rattle.policy.proofs.FirstRule.{decided}
use Rattle.policy.proofs.laws.the_first_rule_decides.Goals as goal

pub returns : goal.returns
returns c = decided
