-- Paths of AS numbers (RFC 4271 sections 4.3 and 5.1.2).
use Rattle.std.specs.Prelude.{◌+◌, ◌-◌, ◌*◌, ◌==◌, nat_lt, if◌then◌else◌, Bool, ℕ, suc, zero, List, [], ◌∷◌, ◌++◌, length, slice_get, Option, Some, None}
use Rattle.std.specs.List.{list_any}
use Rattle.net_prefix.specs.declared.asn.Asn.{Asn}
use Rattle.bgp_attr.specs.declared.as_path.SegmentKind.{SegmentKind}
use Rattle.bgp_attr.specs.declared.as_path.SegmentKind.TheVariants.{Set, Sequence}

-- a segment: a set of ASes, or ASes in order with the latest first
pub record PathSegment : Type 0 where
  pub kind : SegmentKind
  pub asns : List Asn

-- the octets that a segment takes: its type, its count, and four for each AS
abbrev pub segment_octets : PathSegment → ℕ
segment_octets segment = 2 + 4 * length segment.asns

-- the octets that a path takes
abbrev pub path_octets : List PathSegment → ℕ
path_octets [] = 0
path_octets (segment ∷ more) = segment_octets segment + path_octets more

-- what a segment counts for in the length of a path: a set counts 1 (RFC 4271 section 9.1.2.2)
abbrev pub counted : SegmentKind → ℕ → ℕ
counted Set n = 1
counted Sequence n = n

-- the number of ASes in a path
abbrev pub path_length_of : List PathSegment → ℕ
path_length_of [] = 0
path_length_of (segment ∷ more) = counted segment.kind (length segment.asns) + path_length_of more

-- the ASes of a path, segment by segment
abbrev pub ases_of : List PathSegment → List Asn
ases_of [] = []
ases_of (segment ∷ more) = segment.asns ++ ases_of more

-- some segment of the path names the AS
abbrev pub has_as : List PathSegment → Asn → Bool
has_as path asn = list_any (λ segment. list_any (λ a. a.0 == asn.0) segment.asns) path

-- the AS that a final segment names as the origin: none where it is a set
abbrev pub last_as : SegmentKind → List Asn → Option Asn
last_as Set asns = None
last_as Sequence asns = slice_get asns (length asns - 1)

-- the origin AS that a final segment tells, or one's own AS where there is none
abbrev pub origin_at_end : Option PathSegment → Asn → Option Asn
origin_at_end None own = Some own
origin_at_end (Some segment) own = last_as segment.kind segment.asns

-- the origin AS (RFC 6811 section 2): that of the final segment, or one's own AS where the path is empty
abbrev pub origin_as_of : List PathSegment → Asn → Option Asn
origin_as_of path own = origin_at_end (slice_get path (length path - 1)) own

-- the first AS of a list, or another one where there is none
abbrev pub first_of : List Asn → Asn → Asn
first_of [] other = other
first_of (asn ∷ more) other = asn

-- the AS that a first segment names as the neighbor: the other one where it is a set
abbrev pub first_as : SegmentKind → List Asn → Asn → Asn
first_as Set asns other = other
first_as Sequence asns other = first_of asns other

-- the neighbor AS (RFC 4271 section 9.1.2.2): the first AS of a path that begins with an AS_SEQUENCE, else one's own
abbrev pub neighbor_as_of : List PathSegment → Asn → Asn
neighbor_as_of [] own = own
neighbor_as_of (segment ∷ more) own = first_as segment.kind segment.asns own

-- a new segment for an AS, in front
abbrev pub new_segment : Asn → List PathSegment → List PathSegment
new_segment asn path = record { kind = Sequence; asns = asn ∷ [] } ∷ path

-- an AS in front of a path of at least one segment: it joins an AS_SEQUENCE of fewer than 255 ASes
abbrev pub joined : SegmentKind → List Asn → Asn → List PathSegment → List PathSegment
joined Set asns asn more = new_segment asn (record { kind = Set; asns = asns } ∷ more)
joined Sequence asns asn more =
    if nat_lt (length asns) 255
    then record { kind = Sequence; asns = asn ∷ asns } ∷ more
    else new_segment asn (record { kind = Sequence; asns = asns } ∷ more)

-- an AS in front of a path (RFC 4271 section 5.1.2)
abbrev pub put_in_front : Asn → List PathSegment → List PathSegment
put_in_front asn [] = new_segment asn []
put_in_front asn (segment ∷ more) = joined segment.kind segment.asns asn more

-- an AS in front of a path so many times
abbrev pub prepended : List PathSegment → Asn → ℕ → List PathSegment
prepended path asn zero = path
prepended path asn (suc times) = put_in_front asn (prepended path asn times)
