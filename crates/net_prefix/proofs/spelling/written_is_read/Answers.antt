use Rattle.net_prefix.proofs.Spellings.{reads_again}
use Rattle.net_prefix.proofs.spelling.written_is_read.Goals as goal

pub returns : goal.returns
returns c = reads_again
