use Rattle.bgp_msg.proofs.WrittenMessages.{written_first}
use Rattle.bgp_msg.proofs.stream.written_is_read.Goals as goal

pub returns : goal.returns
returns c body kind may fits = written_first kind body may fits
