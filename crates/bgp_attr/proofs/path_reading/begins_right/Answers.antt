use Rattle.std.proofs.Common.{sym, ap, ◌∙◌}
use Rattle.bgp_attr.specs.AttributeReading.{segment_of}
use Rattle.bgp_attr.specs.PathReading.{begins_right}
use Rattle.bgp_attr.specs.declared.peer.PeerKind.{PeerKind}
use Rattle.bgp_attr.proofs.Paths.{begins_right-none, begins_right-some}
use Rattle.bgp_attr.proofs.path_reading.begins_right.Goals as goal

pub returns-in-Some : goal.returns-in-Some
returns-in-Some c path is =
    c.is_sequence_from.ensures
    ∙ (begins_right-some c.in-External.peer c.args.octets.now path (segment_of c.in-Some.first) c.in-Some.field-0-1.now (sym c.in-Some.ensures.found) is
    ∙ sym (ap (λ (kind : PeerKind). begins_right kind path) c.in-External.is))

pub returns-in-None : goal.returns-in-None
returns-in-None c path is =
    begins_right-none c.in-External.peer c.args.octets.now path (sym c.in-None.ensures.found) is
    ∙ sym (ap (λ (kind : PeerKind). begins_right kind path) c.in-External.is)
