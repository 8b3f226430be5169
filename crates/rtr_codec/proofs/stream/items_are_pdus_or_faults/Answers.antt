use Rattle.std.proofs.Common.{Some, ap, sym, ◌∙◌}
use Rattle.rtr_codec.specs.PduStream.{WholePdu, meaning}
use Rattle.rtr_codec.proofs.ReaderAnswers.{quoted_front}
use Rattle.rtr_codec.proofs.StreamItems.{fault_from_meaning, pdu_from_meaning}
use Rattle.rtr_codec.proofs.Streams.{meaning-pdu}
use Rattle.rtr_codec.proofs.stream.items_are_pdus_or_faults.Goals as goal

pub returns-clause-pdu : goal.returns-clause-pdu
returns-clause-pdu c place octets whole content =
    (pdu_from_meaning place octets whole content, λ h. meaning-pdu place octets content h.1 ∙ ap (λ x. Some (WholePdu content x)) (sym h.0))

pub returns-clause-fault : goal.returns-clause-fault
returns-clause-fault c place octets quoted fault =
    (fault_from_meaning place octets quoted fault, λ h. ap (meaning place) (sym h.0) ∙ (quoted_front place octets quoted fault h.1).2)
