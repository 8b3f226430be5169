use Rattle.bgp_msg.proofs.WrittenMessages.{keepalive_first}
use Rattle.bgp_msg.proofs.stream.keepalive_is_read.Goals as goal

pub returns : goal.returns
returns c = keepalive_first
