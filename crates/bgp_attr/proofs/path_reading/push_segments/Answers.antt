use Rattle.std.proofs.Common.{sym, ◌∙◌}
use Rattle.bgp_attr.specs.AttributeReading.{segment_of}
use Rattle.bgp_attr.proofs.Paths.{behind-next, behind_end}
use Rattle.bgp_attr.proofs.path_reading.push_segments.Goals as goal

pub loop-segment-preserved : goal.loop-segment-preserved
loop-segment-preserved g c =
    behind-next c.loop-segment.segments.items c.push_segment.new.segments.items c.loop-segment.rest.now (segment_of c.in-Some.segment) c.in-Some.behind.now _ (sym c.in-Some.ensures.found)
    c.in_ok-push_segment.ensures c.loop-segment.invariant

pub returns : goal.returns
returns g c = behind_end c.loop-segment.segments.items c.loop-segment.rest.now c.is_empty.result (sym c.in_default.ensures.found) c.is_empty.ensures ∙ c.loop-segment.invariant
