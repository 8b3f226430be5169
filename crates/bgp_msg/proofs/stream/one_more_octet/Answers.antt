use Rattle.bgp_msg.proofs.StreamPieces.{messages-push, unread-push}
use Rattle.bgp_msg.proofs.stream.one_more_octet.Goals as goal

pub returns : goal.returns
returns c stream octet = (messages-push stream octet, unread-push stream octet)
