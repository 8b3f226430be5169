use Rattle.std.proofs.Common.{◌≡◌, ◌≤◌, ◌+◌, ◌*◌, ℕ, List, [], ◌∷◌, ◌++◌, length, arith}
use Rattle.bgp_attr.specs.declared.as_path.SegmentKind.{SegmentKind}
use Rattle.bgp_attr.specs.declared.as_path.SegmentKind.TheVariants.{Set, Sequence}
use Rattle.bgp_attr.specs.AsPath.{PathSegment, segment_octets, path_octets, counted, path_length_of}

-- Lengths and ends of paths.

counted_le : (kind : SegmentKind) (n : ℕ) → counted kind n ≤ 2 + 4 * n
counted_le Set n = omega arith
counted_le Sequence n = omega arith

-- a path has fewer ASes than octets
pub path_length_le : (path : List PathSegment) → path_length_of path ≤ path_octets path
path_length_le [] = omega arith
path_length_le (segment ∷ more) = omega (arith, path_length_le more, counted_le segment.kind (length segment.asns))

-- one more segment at the end
pub path_octets_append : (path : List PathSegment) (segment : PathSegment) → path_octets (path ++ segment ∷ []) ≡ path_octets path + segment_octets segment
path_octets_append [] segment = omega arith
path_octets_append (first ∷ more) segment = omega (arith, path_octets_append more segment)
