use Rattle.bgp_peer.proofs.Sending.{queued_is_read_last}
use Rattle.bgp_peer.proofs.laws.queued_is_read_last.Goals as goal

pub returns : goal.returns
returns c = queued_is_read_last
