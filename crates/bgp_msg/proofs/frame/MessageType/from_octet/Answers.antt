use Rattle.std.proofs.Common.{rules}
use Rattle.bgp_msg.proofs.frame.MessageType.from_octet.Goals as goal

pub returns-in-4 : goal.returns-in-4
returns-in-4 c = search rules
