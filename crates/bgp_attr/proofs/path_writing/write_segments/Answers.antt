use Rattle.std.proofs.Common.{◌≡◌, ◌+◌, ◌*◌, arith, ap, length, drop, get_or}
use Rattle.bgp_attr.specs.AttributeSpelling.{path_spelling}
use Rattle.bgp_attr.proofs.Appendings.{stops, segment_in_rest, length-asns_spelling}
use Rattle.bgp_attr.proofs.path_writing.write_segments.Goals as goal

pub returns-then-not-write_segment : goal.returns-then-not-write_segment
returns-then-not-write_segment g c =
    let asns : length c.asns.result.now ≡ length c.segment-item.result.asns = ap length c.asns.ensures.value in
    let item : get_or c.args.segments.now c.loop-segment.segment-index c.segment-item.result ≡ c.segment-item.result = cc in
    stops c.args.out.now.items c.loop-segment.out.items (path_spelling (drop c.loop-segment.segment-index c.args.segments.now)) (path_spelling c.args.segments.now)
    (2 + 4 * length c.segment-item.result.asns) c.loop-segment.invariant
    (segment_in_rest c.args.segments.now c.loop-segment.segment-index c.segment-item.result (omega arith) item)
    (omega (arith, c.if-not-write_segment.ensures, length-asns_spelling c.asns.result.now, asns))
