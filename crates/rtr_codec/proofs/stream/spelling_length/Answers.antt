use Rattle.rtr_codec.proofs.Spellings.{length-spelling}
use Rattle.rtr_codec.proofs.stream.spelling_length.Goals as goal

pub returns : goal.returns
returns c content = length-spelling content
