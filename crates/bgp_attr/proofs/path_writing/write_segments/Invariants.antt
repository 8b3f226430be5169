use Rattle.std.proofs.Common.{◌≡◌, ◌++◌, drop}
use Rattle.bgp_attr.specs.AttributeSpelling.{path_spelling}
use Rattle.bgp_attr.proofs.path_writing.write_segments.Given as goal

abbrev pub invariant-loop-segment : goal.invariant-loop-segment
invariant-loop-segment g l = l.out.items ++ path_spelling (drop l.segment-index l.segments) ≡ l.fn.out.items ++ path_spelling l.segments
