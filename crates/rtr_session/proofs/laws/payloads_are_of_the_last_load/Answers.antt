use Rattle.rtr_session.proofs.LastLoad.{no_others_are_in_force, payloads_are_of_the_last_load}
use Rattle.rtr_session.proofs.laws.payloads_are_of_the_last_load.Goals as goal

pub returns-clause-last : goal.returns-clause-last
returns-clause-last c = payloads_are_of_the_last_load

pub returns-clause-only : goal.returns-clause-only
returns-clause-only c = no_others_are_in_force
