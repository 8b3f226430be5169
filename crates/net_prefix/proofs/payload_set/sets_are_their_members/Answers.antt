use Rattle.net_prefix.proofs.PayloadSets.{has-put, has-out, same_set}
use Rattle.net_prefix.proofs.payload_set.sets_are_their_members.Goals as goal

pub returns-clause-put : goal.returns-clause-put
returns-clause-put c = has-put

pub returns-clause-out : goal.returns-clause-out
returns-clause-out c = has-out

pub returns-clause-one : goal.returns-clause-one
returns-clause-one c = same_set
