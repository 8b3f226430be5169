use Rattle.bgp_msg.proofs.WrittenMessages.{notification_first}
use Rattle.bgp_msg.proofs.stream.notification_is_read.Goals as goal

pub returns : goal.returns
returns c = notification_first
