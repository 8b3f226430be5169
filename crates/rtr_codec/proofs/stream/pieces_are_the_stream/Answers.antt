use Rattle.std.proofs.Common.{[]}
use Rattle.octet_streams.proofs.Splits.{pieces}
use Rattle.rtr_codec.specs.PduStream.{pdu_grammar}
use Rattle.rtr_codec.proofs.Streams.{is_grammar}
use Rattle.rtr_codec.proofs.stream.pieces_are_the_stream.Goals as goal

pub returns : goal.returns
returns c place all = pieces pdu_grammar is_grammar place [] all
