use Rattle.std.proofs.Common.{◌≡◌, length}
use Rattle.bgp_attr.specs.PathReading.{path_at}
use Rattle.bgp_attr.proofs.Paths.{behind}
use Rattle.bgp_attr.proofs.path_reading.push_segments.Given as goal

abbrev pub invariant-loop-segment : goal.invariant-loop-segment
invariant-loop-segment g l = behind l.segments.items (path_at l.rest) ≡ behind l.fn.segments.items (path_at l.octets)

abbrev pub decreases-loop-segment : goal.decreases-loop-segment
decreases-loop-segment g l = length l.rest
