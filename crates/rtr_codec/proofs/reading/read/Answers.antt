use Rattle.std.proofs.Common.{arith}
use Rattle.rtr_codec.proofs.ReaderAnswers.{is_front}
use Rattle.rtr_codec.proofs.SpelledPdus.{answer_is_spelled}
use Rattle.rtr_codec.proofs.reading.read.Goals as goal

pub returns-clause-stream : goal.returns-clause-stream
returns-clause-stream c = is_front c.args.place c.args.octets.now _ c.front.ensures

pub returns-clause-spelled : goal.returns-clause-spelled
returns-clause-spelled c = answer_is_spelled c.args.place c.args.octets.now _ (λ i. omega (arith, c.type_inv.octets i)) c.front.ensures
