use Rattle.std.proofs.Common.{rules}
use Rattle.bgp_peer.proofs.Agreeing.{agrees-new}
use Rattle.bgp_peer.proofs.peer.Peer.new.Goals as goal

pub returns-clause-exact : goal.returns-clause-exact
returns-clause-exact g c = search rules

pub returns-clause-agrees : goal.returns-clause-agrees
returns-clause-agrees g c = λ h peer_asn. rw (returns-clause-exact g c) (agrees-new h c.args.own c.args.mode peer_asn c.args.times)
