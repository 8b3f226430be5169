use Rattle.bgp_peer.proofs.Agreeing.{agrees-shut}
use Rattle.bgp_peer.proofs.laws.octets_are_ignored.Goals as goal

pub returns : goal.returns
returns c = agrees-shut
