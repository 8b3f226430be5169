use Rattle.std.proofs.Common.{◌≡◌, ◌+◌, drop}
use Rattle.bgp_attr.specs.AsPath.{path_length_of}
use Rattle.bgp_attr.proofs.as_path.AsPath.length.Given as goal

abbrev pub invariant-loop-segment : goal.invariant-loop-segment
invariant-loop-segment g l = l.total + path_length_of (drop l.segment-index l.segment-items) ≡ path_length_of l.segment-items
