use Rattle.policy.proofs.TableLaws.{policy_action-all, policy_action-none, policy_action-unknown}
use Rattle.policy.proofs.laws.built_in_policies_do_one_thing.Goals as goal

pub returns-clause-all : goal.returns-clause-all
returns-clause-all c = policy_action-all

pub returns-clause-none : goal.returns-clause-none
returns-clause-none c = policy_action-none

pub returns-clause-unknown : goal.returns-clause-unknown
returns-clause-unknown c = policy_action-unknown
