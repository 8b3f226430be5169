use Rattle.policy.proofs.TableLaws.{rules_of-with_other, rules_of-with_policy, rules_of-without_other, rules_of-without_policy}
use Rattle.policy.proofs.laws.policies_go_by_their_names.Goals as goal

pub returns-clause-set : goal.returns-clause-set
returns-clause-set c = rules_of-with_policy

pub returns-clause-not_set : goal.returns-clause-not_set
returns-clause-not_set c = rules_of-with_other

pub returns-clause-dropped : goal.returns-clause-dropped
returns-clause-dropped c = rules_of-without_policy

pub returns-clause-not_dropped : goal.returns-clause-not_dropped
returns-clause-not_dropped c = rules_of-without_other
