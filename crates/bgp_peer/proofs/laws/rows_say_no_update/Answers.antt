use Rattle.bgp_peer.proofs.Sending.{rows_say_no_update}
use Rattle.bgp_peer.proofs.laws.rows_say_no_update.Goals as goal

pub returns : goal.returns
returns c = rows_say_no_update
