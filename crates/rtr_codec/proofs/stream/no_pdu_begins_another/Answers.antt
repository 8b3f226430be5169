use Rattle.octet_streams.proofs.Streams.{only_whole}
use Rattle.rtr_codec.specs.PduStream.{pdu_grammar}
use Rattle.rtr_codec.proofs.Streams.{is_grammar}
use Rattle.rtr_codec.proofs.stream.no_pdu_begins_another.Goals as goal

pub returns : goal.returns
returns c place octets more item other h k = only_whole pdu_grammar is_grammar place octets more item other h k
