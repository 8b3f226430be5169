use Rattle.std.proofs.Common.{arith}
use Rattle.std.proofs.lemmas.Grind.{common_steps}
use Rattle.bgp_peer.proofs.Agreeing.{agrees-queue}
use Rattle.bgp_peer.proofs.peer.Peer.queue.Goals as goal

pub returns-clause-exact : goal.returns-clause-exact
returns-clause-exact g c = grind (arith, common_steps)

pub returns-clause-agrees : goal.returns-clause-agrees
returns-clause-agrees g c = λ h a established update room. rw (returns-clause-exact g c) (agrees-queue h _ _ established update room a)
