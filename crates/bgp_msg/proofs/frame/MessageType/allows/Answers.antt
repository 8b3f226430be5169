use Rattle.std.proofs.Common.{rules}
use Rattle.bgp_msg.proofs.frame.MessageType.allows.Goals as goal

pub returns-in-Keepalive : goal.returns-in-Keepalive
returns-in-Keepalive c = search rules
