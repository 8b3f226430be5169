-- How attributes are written (RFC 4271 section 4.3).
use Rattle.std.specs.Prelude.{◌≡◌, ◌≢◌, ◌/◌, ◌==◌, Bool, true, false, not, bit_and, map, nat_eq, MatchOption, ⊤, ℕ, ◌+◌, ◌^◌, ◌<◌, ◌≤◌, nat_lt, if◌then◌else◌, List, [], ◌∷◌, ◌++◌, length, Option, Some, None}
use Rattle.std.specs.Int.{to_be_bytes, w16, w32}
use Rattle.std.specs.List.{AllByRecursion, IsDistinct, flat_map}
use Rattle.std.specs.Option.{option_map}
use Rattle.net_prefix.specs.declared.asn.Asn.{Asn}
use Rattle.bgp_attr.specs.AsPath.{PathSegment, path_octets}
use Rattle.bgp_attr.specs.AttributeReading.{taken_of, value_taken}
use Rattle.bgp_attr.specs.AttributeTable.{class_flags_of, class_of, is_taken, octet_of, type_of, types, written_flags_of}
use Rattle.bgp_attr.specs.PathAttributes.{PathAttributes, origin_octet}
use Rattle.bgp_attr.specs.PathReading.{begins_right}
use Rattle.bgp_attr.specs.ReceivedAttributes.{Attribute, IsAttribute, is_optional, is_partial, wholes}
use Rattle.bgp_attr.specs.UnknownAttributes.{ArePassedOn, SpellsUnknown, Unknown}
use Rattle.bgp_attr.specs.declared.aggregator.Aggregator.{Aggregator}
use Rattle.bgp_attr.specs.declared.peer.PeerKind.{PeerKind}
use Rattle.bgp_attr.specs.declared.as_path.SegmentKind.{SegmentKind}
use Rattle.bgp_attr.specs.declared.as_path.SegmentKind.TheVariants.{Set, Sequence}
use Rattle.bgp_attr.specs.declared.attrs.Origin.{Origin}
use Rattle.bgp_attr.specs.declared.attribute_type.AttributeType.{AttributeType}
use Rattle.bgp_attr.specs.declared.attribute_type.AttributeType.TheVariants as type

-- the octet of a kind of segment
abbrev pub kind_octet : SegmentKind → ℕ
kind_octet Set = 1
kind_octet Sequence = 2

-- ASes one after another, each in four octets (RFC 6793)
abbrev pub asns_spelling : List Asn → List ℕ
asns_spelling [] = []
asns_spelling (asn ∷ more) = to_be_bytes w32 asn.0 ++ asns_spelling more

-- a segment: its type, how many ASes it has, and they
abbrev pub segment_spelling : PathSegment → List ℕ
segment_spelling segment = (kind_octet segment.kind ∷ length segment.asns ∷ []) ++ asns_spelling segment.asns

-- the segments one after another
abbrev pub path_spelling : List PathSegment → List ℕ
path_spelling [] = []
path_spelling (segment ∷ more) = segment_spelling segment ++ path_spelling more

-- flags, code and length of an attribute: the length has two octets, and a flag that says so, only where one does not do
abbrev pub header_spelling : ℕ → ℕ → ℕ → List ℕ
header_spelling flags code n = if nat_lt 255 n then (flags + 16) ∷ code ∷ to_be_bytes w16 n else flags ∷ code ∷ n ∷ []

-- an attribute with these flags, this code and this value
abbrev pub attribute_spelling : ℕ → ℕ → List ℕ → List ℕ
attribute_spelling flags code value = header_spelling flags code (length value) ++ value

-- the same where there is a value
abbrev pub optional_spelling : ℕ → ℕ → Option (List ℕ) → List ℕ
optional_spelling flags code None = []
optional_spelling flags code (Some value) = attribute_spelling flags code value

-- an origin: its octet
abbrev pub origin_spelling : Origin → List ℕ
origin_spelling origin = origin_octet origin ∷ []

-- a number or an address: four octets
abbrev pub number_spelling : ℕ → List ℕ
number_spelling n = to_be_bytes w32 n

-- a mark: no octets, where it is set
abbrev pub mark_spelling : Bool → Option (List ℕ)
mark_spelling false = None
mark_spelling true = Some []

-- an aggregator: its AS and its address
abbrev pub aggregator_spelling : Aggregator → List ℕ
aggregator_spelling aggregator = to_be_bytes w32 aggregator.asn.0 ++ to_be_bytes w32 aggregator.address

-- the value of a type, where the attributes have one
abbrev pub value_in : PathAttributes → AttributeType → Option (List ℕ)
value_in attrs type.Origin = option_map origin_spelling attrs.origin
value_in attrs type.AsPath = option_map path_spelling attrs.as_path
value_in attrs type.NextHop = option_map number_spelling attrs.next_hop
value_in attrs type.MultiExitDisc = option_map number_spelling attrs.multi_exit_disc
value_in attrs type.LocalPref = option_map number_spelling attrs.local_pref
value_in attrs type.AtomicAggregate = mark_spelling attrs.atomic_aggregate
value_in attrs type.Aggregator = option_map aggregator_spelling attrs.aggregator

-- the partial bit of an aggregator
abbrev pub partial_flag : Option Aggregator → ℕ
partial_flag None = 0
partial_flag (Some aggregator) = if aggregator.is_partial then 32 else 0

-- the flags of a type: AGGREGATOR has the partial bit that it came with
abbrev pub flags_in : PathAttributes → AttributeType → ℕ
flags_in attrs type.Aggregator = written_flags_of type.Aggregator + partial_flag attrs.aggregator
flags_in attrs known = written_flags_of known

-- the attribute of a type, where there is one
abbrev pub type_spelling : PathAttributes → AttributeType → List ℕ
type_spelling attrs known = optional_spelling (flags_in attrs known) (octet_of known) (value_in attrs known)

-- the flags of an unknown attribute that is passed on: optional, transitive, partial (RFC 4271 section 5)
abbrev pub unknown_flags : ℕ
unknown_flags = 224

-- an unknown attribute stands in front of the known ones, or behind them
abbrev pub is_in_part : Bool → ℕ → Bool
is_in_part true code = code == 0
is_in_part false code = not (code == 0)

-- an unknown attribute in its part
abbrev pub unknown_in_part : Bool → ℕ × List ℕ → List ℕ
unknown_in_part first e = if is_in_part first e.0 then attribute_spelling unknown_flags e.0 e.1 else []

-- the unknown attributes in front of the known ones, or behind them
abbrev pub unknown_spelling : Bool → Unknown → List ℕ
unknown_spelling first unknown = flat_map (unknown_in_part first) unknown

-- attributes as they are written, in rising order of their codes: an unknown one of code 0, those of each type, other unknown ones
abbrev pub attributes_spelling : PathAttributes → List ℕ
attributes_spelling attrs = unknown_spelling true attrs.unknown ++ (flat_map (type_spelling attrs) types ++ unknown_spelling false attrs.unknown)

-- an AS that a path may name
abbrev pub IsAs : Asn → Type 0
IsAs asn = (0 < asn.0) × (asn.0 < 2 ^ 32)

-- a segment has 1 to 255 ASes
pub record IsSegment (segment : PathSegment) : Type 0 where
  pub some : 0 < length segment.asns
  pub few : length segment.asns ≤ 255
  pub each : AllByRecursion IsAs segment.asns

-- the octets spell a path of such segments
pub record SpellsPath (octets : List ℕ) (path : List PathSegment) : Type 0 where
  pub each : AllByRecursion IsSegment path
  pub spelled : octets ≡ path_spelling path

-- an attribute of a type that is taken from such a peer has the optional and the transitive bit of its class; one of an unknown code is optional
abbrev pub HasClass : PeerKind → Option AttributeType → ℕ → Type 0
HasClass kind None flags = is_optional flags ≡ true
HasClass kind (Some known) flags = is_taken kind known ≡ true → bit_and flags 192 ≡ class_flags_of (class_of known)

-- the address of a host: its first octet is not 0, not 127 and below 224
abbrev pub IsHost : ℕ → Type 0
IsHost address = (address < 2 ^ 32) × (0 < address / 2 ^ 24) × (address / 2 ^ 24 ≢ 127) × (address / 2 ^ 24 < 224)

-- the values are such as attributes of such a peer have: a path of ASes that begins as it has to, the address of a host, numbers of four octets
pub record AreLawful (kind : PeerKind) (attrs : PathAttributes) : Type 0 where
  pub as_path : MatchOption attrs.as_path ⊤ (λ path. AllByRecursion IsSegment path × (begins_right kind path ≡ true))
  pub next_hop : MatchOption attrs.next_hop ⊤ IsHost
  pub multi_exit_disc : MatchOption attrs.multi_exit_disc ⊤ (λ n. n < 2 ^ 32)
  pub local_pref : MatchOption attrs.local_pref ⊤ (λ n. n < 2 ^ 32)
  pub aggregator : MatchOption attrs.aggregator ⊤ (λ a. (a.asn.0 < 2 ^ 32) × (a.address < 2 ^ 32))

-- the octets spell the attributes of such a peer: each in any place, with any low flag bits, its length in one octet or two
pub record SpellsAttributes (kind : PeerKind) (octets : List ℕ) (attrs : PathAttributes) : Type 0 where
  pub attributes : List Attribute
  pub joined : octets ≡ wholes attributes
  pub each : AllByRecursion IsAttribute attributes
  pub known : AllByRecursion (λ a. HasClass kind (type_of a.code) a.flags) attributes
  pub once : IsDistinct nat_eq (map (λ a. a.code) attributes)
  pub values : (known : AttributeType) → value_taken kind known attributes ≡ value_in attrs known
  pub partial : option_map (λ a. is_partial a.flags) (taken_of kind type.Aggregator attributes) ≡ option_map (λ a. a.is_partial) attrs.aggregator
  pub unknown : SpellsUnknown attributes attrs.unknown
  pub lawful : AreLawful kind attrs

-- attributes that can be written to such a peer: lawful ones, none of a type that is not taken from it, a path that a length of two octets can tell, unknown ones that may be passed on
pub record CanBeSpelled (kind : PeerKind) (attrs : PathAttributes) : Type 0 where
  pub lawful : AreLawful kind attrs
  pub taken : (known : AttributeType) → is_taken kind known ≡ false → value_in attrs known ≡ None
  pub short : MatchOption attrs.as_path ⊤ (λ path. path_octets path ≤ 65535)
  pub unknown : ArePassedOn attrs.unknown
