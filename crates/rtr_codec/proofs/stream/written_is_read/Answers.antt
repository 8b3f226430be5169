use Rattle.rtr_codec.proofs.Spellings.{written_first}
use Rattle.rtr_codec.proofs.stream.written_is_read.Goals as goal

pub returns : goal.returns
returns c place content h = written_first place content h
