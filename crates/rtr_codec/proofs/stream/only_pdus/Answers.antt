use Rattle.octet_streams.proofs.Splits.{split, splits}
use Rattle.rtr_codec.specs.PduStream.{pdu_grammar}
use Rattle.rtr_codec.proofs.Streams.{is_grammar}
use Rattle.rtr_codec.proofs.stream.only_pdus.Goals as goal

pub returns-clause-some : goal.returns-clause-some
returns-clause-some c place stream = splits pdu_grammar is_grammar place stream

pub returns-clause-one : goal.returns-clause-one
returns-clause-one c place stream rest items h = split pdu_grammar is_grammar place stream items rest h
