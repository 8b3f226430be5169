use Rattle.std.proofs.Common.{rules}
use Rattle.bgp_peer.proofs.Agreeing.{agrees-signal}
use Rattle.bgp_peer.proofs.Receiving.{agrees-hearing}
use Rattle.bgp_peer.proofs.peer.Peer.input.Goals as goal

pub returns-clause-exact : goal.returns-clause-exact
returns-clause-exact g c = search rules

pub returns-clause-signalled : goal.returns-clause-signalled
returns-clause-signalled g c = λ h a now is. rw (returns-clause-exact g c, ← now) (agrees-signal h _ _ is a)

pub returns-clause-heard : goal.returns-clause-heard
returns-clause-heard g c = λ h item hearing now is. rw (returns-clause-exact g c, ← now) (agrees-hearing h _ item _ hearing is)
