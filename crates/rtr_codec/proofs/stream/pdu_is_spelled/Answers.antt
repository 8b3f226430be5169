use Rattle.rtr_codec.proofs.SpelledPdus.{is_spelled}
use Rattle.rtr_codec.proofs.Spellings.{spelled_is}
use Rattle.rtr_codec.proofs.stream.pdu_is_spelled.Goals as goal

pub returns-clause-read : goal.returns-clause-read
returns-clause-read c = spelled_is

pub returns-clause-spelled : goal.returns-clause-spelled
returns-clause-spelled c = is_spelled
