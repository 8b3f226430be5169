-- What the attributes that came say (RFC 4271 section 5.1).
use Rattle.std.specs.Prelude.{◌<◌, ◌⊎◌, IsSome, ℕ, Bool, ◌==◌, if◌then◌else◌, Vec, List, [], ◌∷◌, length, take, drop, is_some, Option, Some, None}
use Rattle.std.specs.Int.{from_be_bytes, w32}
use Rattle.std.specs.Option.{option_and_then, option_map}
use Rattle.bgp_attr.specs.AsPath.{PathSegment}
use Rattle.bgp_attr.specs.PathAttributes.{PathAttributes, origin_at}
use Rattle.bgp_attr.specs.PathReading.{asns_in, path_at}
use Rattle.bgp_attr.specs.declared.path_reading.RawSegment.{RawSegment}
use Rattle.bgp_attr.specs.AttributeTable.{is_taken, octet_of}
use Rattle.bgp_attr.specs.ReceivedAttributes.{Attribute, found_of, is_partial, split_of}
use Rattle.bgp_attr.specs.UnknownAttributes.{unknown_in}
use Rattle.bgp_attr.specs.declared.aggregator.Aggregator.{Aggregator}
use Rattle.bgp_attr.specs.declared.attrs.Origin.{Origin}
use Rattle.bgp_attr.specs.declared.attribute_type.AttributeType.{AttributeType}
use Rattle.bgp_attr.specs.declared.attribute_type.AttributeType.TheVariants as type
use Rattle.bgp_attr.specs.declared.peer.PeerKind.{PeerKind}
use Rattle.bgp_attr.specs.declared.header.Attribute.{Attribute as Found}

-- an attribute without where it lies in memory
abbrev pub as_came : Found → Attribute
as_came found = record { flags = found.flags; code = found.code; value = found.value.now; whole = found.whole.now }

-- a segment that came, without where it lies in memory
abbrev pub segment_of : RawSegment → PathSegment
segment_of found = record { kind = found.kind; asns = asns_in found.asns.now }

-- the segments in a vector
abbrev pub path_items : {A : Type 0} → Vec PathSegment A → List PathSegment
path_items segments = segments.items

-- the origin that a value of one octet is
abbrev pub origin_in : List ℕ → Option Origin
origin_in [] = None
origin_in (octet ∷ []) = origin_at octet
origin_in (octet ∷ other ∷ more) = None

-- the number that a value of four octets is
abbrev pub number_in : List ℕ → Option ℕ
number_in [] = None
number_in (a ∷ []) = None
number_in (a ∷ b ∷ []) = None
number_in (a ∷ b ∷ c ∷ []) = None
number_in (a ∷ b ∷ c ∷ d ∷ []) = Some (from_be_bytes w32 (a ∷ b ∷ c ∷ d ∷ []))
number_in (a ∷ b ∷ c ∷ d ∷ e ∷ more) = None

-- the aggregator that a value of eight octets is, with the partial bit
abbrev pub aggregator_in : Bool → List ℕ → Option Aggregator
aggregator_in partial value =
    if length value == 8
    then Some (record { asn = record { 0 = from_be_bytes w32 (take 4 value) }; address = from_be_bytes w32 (drop 4 value); is_partial = partial })
    else None

-- the attribute of a type, where it is taken from such a peer
abbrev pub taken_of : PeerKind → AttributeType → List Attribute → Option Attribute
taken_of kind known attributes = if is_taken kind known then found_of (octet_of known) attributes else None

-- its value
abbrev pub value_taken : PeerKind → AttributeType → List Attribute → Option (List ℕ)
value_taken kind known attributes = option_map (λ a. a.value) (taken_of kind known attributes)

-- what attributes from such a peer say by their codes
abbrev pub attributes_from : PeerKind → List Attribute → PathAttributes
attributes_from kind attributes =
    record {
      origin = option_and_then origin_in (value_taken kind type.Origin attributes);
      as_path = option_and_then path_at (value_taken kind type.AsPath attributes);
      next_hop = option_and_then number_in (value_taken kind type.NextHop attributes);
      multi_exit_disc = option_and_then number_in (value_taken kind type.MultiExitDisc attributes);
      local_pref = option_and_then number_in (value_taken kind type.LocalPref attributes);
      atomic_aggregate = is_some (value_taken kind type.AtomicAggregate attributes);
      aggregator = option_and_then (λ a. aggregator_in (is_partial a.flags) a.value) (taken_of kind type.Aggregator attributes);
      unknown = unknown_in attributes;
    }

-- the attributes that octets from such a peer say
unfoldable pub attributes_in : PeerKind → List ℕ → PathAttributes
attributes_in kind octets = attributes_from kind (split_of octets).0

-- memory is needed to keep them: for a path, and for unknown attributes
abbrev pub NeedMemory : PathAttributes → Type 0
NeedMemory attrs = IsSome attrs.as_path ⊎ (0 < length attrs.unknown)
