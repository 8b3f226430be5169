use Rattle.bgp_msg.proofs.StreamPieces.{messages-goes_on, unread-goes_on}
use Rattle.bgp_msg.proofs.stream.stream_goes_on.Goals as goal

pub returns-clause-unread : goal.returns-clause-unread
returns-clause-unread c stream more = unread-goes_on stream more

pub returns-clause-messages : goal.returns-clause-messages
returns-clause-messages c stream more none = messages-goes_on stream more none
