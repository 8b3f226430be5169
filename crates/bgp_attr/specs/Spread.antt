-- How an AS that is put in front many times is spread over segments.
use Rattle.std.specs.Prelude.{ℕ, zero, suc, ◌-◌, ◌/◌, ◌%◌, List, [], ◌∷◌, ◌++◌, length, replicate}
use Rattle.net_prefix.specs.declared.asn.Asn.{Asn}
use Rattle.bgp_attr.specs.AsPath.{PathSegment}
use Rattle.bgp_attr.specs.declared.as_path.SegmentKind.{SegmentKind}
use Rattle.bgp_attr.specs.declared.as_path.SegmentKind.TheVariants.{Set, Sequence}

-- a segment that has one AS so many times
unfoldable pub run : Asn → ℕ → PathSegment
run asn n = record { kind = Sequence; asns = replicate n asn }

-- a new segment, none for no AS
abbrev pub part_of : Asn → ℕ → List PathSegment
part_of asn zero = []
part_of asn (suc n) = run asn (suc n) ∷ []

-- the path with the AS so many times in its first segment
abbrev pub joining_of : List PathSegment → Asn → ℕ → List PathSegment
joining_of [] asn n = []
joining_of (segment ∷ more) asn n = record { kind = segment.kind; asns = replicate n asn ++ segment.asns } ∷ more

-- how many ASes may join a segment
abbrev pub room_in : SegmentKind → ℕ → ℕ
room_in Set n = 0
room_in Sequence n = 255 - n

-- how many ASes may join the first segment
abbrev pub room_of : List PathSegment → ℕ
room_of [] = 0
room_of (segment ∷ more) = room_in segment.kind (length segment.asns)

-- how many of so many ASes begin new segments
abbrev pub new_of : List PathSegment → ℕ → ℕ
new_of path times = times - room_of path

-- whether there is a new segment of fewer than 255
abbrev pub part_count : ℕ → ℕ
part_count zero = 0
part_count (suc n) = 1

-- a new segment of fewer than 255, then so many of 255, then the path with some in its first segment
abbrev pub spread_path : List PathSegment → Asn → ℕ → ℕ → ℕ → List PathSegment
spread_path path asn part full joining = part_of asn part ++ (replicate full (run asn 255) ++ joining_of path asn joining)

-- so many ASes in front, spread
abbrev pub spread_of : List PathSegment → Asn → ℕ → List PathSegment
spread_of path asn times = spread_path path asn (new_of path times % 255) (new_of path times / 255) (times - new_of path times)
