-- The path that octets are (RFC 4271 section 4.3, RFC 6793).
use Rattle.std.specs.Prelude.{◌*◌, ◌==◌, nat_lt, not, if◌then◌else◌, Bool, true, false, ℕ, zero, suc, List, [], ◌∷◌, length, take, drop, Option, Some, None}
use Rattle.std.specs.Int.{from_be_bytes, w32}
use Rattle.std.specs.List.{list_any}
use Rattle.std.specs.Option.{option_map, option_and_then}
use Rattle.net_prefix.specs.declared.asn.Asn.{Asn}
use Rattle.bgp_attr.specs.AsPath.{PathSegment}
use Rattle.bgp_attr.specs.declared.as_path.SegmentKind.{SegmentKind}
use Rattle.bgp_attr.specs.declared.as_path.SegmentKind.TheVariants.{Set, Sequence}
use Rattle.bgp_attr.specs.declared.peer.PeerKind.{PeerKind}
use Rattle.bgp_attr.specs.declared.peer.PeerKind.TheVariants.{External, Internal}

-- the kind of segment that has an octet
abbrev pub kind_at : ℕ → Option SegmentKind
kind_at octet = if octet == 1 then Some Set else (if octet == 2 then Some Sequence else None)

-- the ASes that octets are, four for each
abbrev pub asns_in : List ℕ → List Asn
asns_in [] = []
asns_in (a ∷ []) = []
asns_in (a ∷ b ∷ []) = []
asns_in (a ∷ b ∷ c ∷ []) = []
asns_in (a ∷ b ∷ c ∷ d ∷ more) = record { 0 = from_be_bytes w32 (a ∷ b ∷ c ∷ d ∷ []) } ∷ asns_in more

-- some AS is 0
abbrev pub has_zero : List Asn → Bool
has_zero asns = list_any (λ asn. asn.0 == 0) asns

-- a segment of this kind with so many ASes, none of them 0, and what is behind it; none where it is cut off
abbrev pub segment_with : ℕ → List ℕ → SegmentKind → Option (PathSegment × List ℕ)
segment_with count more kind =
    if count == 0 then None
    else (if nat_lt (length more) (4 * count) then None
    else (if has_zero (asns_in (take (4 * count) more)) then None
    else Some (record { kind = kind; asns = asns_in (take (4 * count) more) }, drop (4 * count) more)))

-- the segment at the front, and what is behind it; none where there is no well-formed one
unfoldable pub segment_at : List ℕ → Option (PathSegment × List ℕ)
segment_at [] = None
segment_at (kind ∷ []) = None
segment_at (kind ∷ count ∷ more) = option_and_then (segment_with count more) (kind_at kind)

-- the segment at the front, and the path behind it; the empty path where there is nothing
abbrev pub path_behind : (List ℕ → Option (List PathSegment)) → List ℕ → Option (List PathSegment)
path_behind path [] = Some []
path_behind path (octet ∷ more) = option_and_then (λ found. option_map (λ segments. found.0 ∷ segments) (path found.1)) (segment_at (octet ∷ more))

-- the path of so many segments at most
unfoldable pub path_within : ℕ → List ℕ → Option (List PathSegment)
path_within zero octets = path_behind (λ more. None) octets
path_within (suc n) octets = path_behind (path_within n) octets

-- the path that octets are, where they are one: each segment takes an octet at least
unfoldable pub path_at : List ℕ → Option (List PathSegment)
path_at octets = path_within (length octets) octets

-- a segment is an AS_SEQUENCE that begins with the AS
abbrev pub is_sequence_from : SegmentKind → List Asn → Asn → Bool
is_sequence_from Set asns asn = false
is_sequence_from Sequence [] asn = false
is_sequence_from Sequence (first ∷ more) asn = first.0 == asn.0

-- the path of an external peer begins with an AS_SEQUENCE whose first AS is the peer's (RFC 4271 section 6.3)
abbrev pub begins_right : PeerKind → List PathSegment → Bool
begins_right Internal path = true
begins_right (External asn) [] = false
begins_right (External asn) (segment ∷ more) = is_sequence_from segment.kind segment.asns asn

-- there is no path, or it begins wrong
abbrev pub is_no_path : PeerKind → Option (List PathSegment) → Bool
is_no_path kind None = true
is_no_path kind (Some path) = not (begins_right kind path)

-- the octets are no AS_PATH of such a peer
abbrev pub is_malformed_path : PeerKind → List ℕ → Bool
is_malformed_path kind octets = is_no_path kind (path_at octets)
