use Rattle.bgp_msg.proofs.StreamPieces.{pieces}
use Rattle.bgp_msg.proofs.stream.pieces_are_the_stream.Goals as goal

pub returns : goal.returns
returns c all = pieces all
