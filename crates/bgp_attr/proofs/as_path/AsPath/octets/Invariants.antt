use Rattle.std.proofs.Common.{◌≡◌, ◌+◌, drop}
use Rattle.bgp_attr.specs.AsPath.{path_octets}
use Rattle.bgp_attr.proofs.as_path.AsPath.octets.Given as goal

abbrev pub invariant-loop-segment : goal.invariant-loop-segment
invariant-loop-segment g l = l.total + path_octets (drop l.segment-index l.segment-items) ≡ path_octets l.segment-items
