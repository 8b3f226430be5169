use Rattle.bgp_peer.proofs.Sending.{written_is_update}
use Rattle.bgp_peer.proofs.laws.written_is_update.Goals as goal

pub returns : goal.returns
returns c = written_is_update
