-- How a message is spelled in octets (RFC 4271 section 4).
use Rattle.std.specs.Prelude.{◌≡◌, refl, ◌/◌, ℕ, zero, suc, ◌+◌, ◌*◌, ◌==◌, nat_lt, nat_le, if◌then◌else◌, Bool, true, false, List, [], ◌∷◌, ◌++◌, Option, Some, None, take, drop, length, slice_index}
use Rattle.std.specs.Option.{option_map, option_and_then}
use Rattle.std.specs.Int.{w16, w32, to_be_bytes, from_be_bytes}
use Rattle.std.specs.List.{list_all, flat_map}
use Rattle.net_prefix.specs.declared.prefix.Prefix.{Prefix}
use Rattle.std.proofs.lemmas.Bool.{leb-true}
use Rattle.std.proofs.Math.Nat.{mul-mod_left}
use Rattle.net_prefix.specs.Cover.{masked_bits, block_size}
use Rattle.net_prefix.specs.PrefixSpelling.{BeginsWith, spelling_of, octets_for, address_from}
use Rattle.bgp_msg.specs.declared.frame.MessageType.{MessageType}
use Rattle.bgp_msg.specs.declared.frame.MessageType.TheVariants.{Open, Update, Notification, Keepalive, RouteRefresh}

-- the octet of a type: that of ROUTE-REFRESH by RFC 2918 section 3
abbrev pub kind_octet : MessageType → ℕ
kind_octet Open = 1
kind_octet Update = 2
kind_octet Notification = 3
kind_octet Keepalive = 4
kind_octet RouteRefresh = 5

-- the type of an octet
abbrev pub kind_at : ℕ → Option MessageType
kind_at octet =
    if octet == 1 then Some Open
    else (if octet == 2 then Some Update
    else (if octet == 3 then Some Notification
    else (if octet == 4 then Some Keepalive
    else (if octet == 5 then Some RouteRefresh
    else None))))

-- the lengths that a message of a type may have, its header among them
abbrev pub is_lawful_length : MessageType → ℕ → Bool
is_lawful_length Open told = nat_le 29 told
is_lawful_length Update told = nat_le 23 told
is_lawful_length Notification told = nat_le 21 told
is_lawful_length Keepalive told = told == 19
is_lawful_length RouteRefresh told = told == 23

-- all bits of the 16 octets of the marker are set
unfoldable pub has_marker : List ℕ → Bool
has_marker octets = list_all (λ octet. octet == 255) (take 16 octets)

-- the length that a header tells
abbrev pub told_length : List ℕ → ℕ
told_length octets = slice_index octets 16 * 256 + slice_index octets 17

-- the marker: 16 octets of which all bits are set
unfoldable pub marker : List ℕ
marker = 255 ∷ 255 ∷ 255 ∷ 255 ∷ 255 ∷ 255 ∷ 255 ∷ 255 ∷ 255 ∷ 255 ∷ 255 ∷ 255 ∷ 255 ∷ 255 ∷ 255 ∷ 255 ∷ []

-- a header: the marker, the length of the whole message, the type
unfoldable pub header_of : MessageType → ℕ → List ℕ
header_of kind told = marker ++ to_be_bytes w16 told ++ kind_octet kind ∷ []

-- a message: its header, and its body
unfoldable pub message_of : MessageType → List ℕ → List ℕ
message_of kind body = header_of kind (19 + length body) ++ body

-- the capability of AS numbers of four octets (RFC 6793 section 3)
abbrev pub four_octet_as_capability : ℕ → List ℕ
four_octet_as_capability asn = 65 ∷ 4 ∷ to_be_bytes w32 asn

-- the capability of IPv4 unicast (RFC 4760 section 8): of its value, the AFI 1, an octet of 0, the SAFI 1
abbrev pub unicast_capability : List ℕ
unicast_capability = 1 ∷ 4 ∷ 0 ∷ 1 ∷ 0 ∷ 1 ∷ []

-- the same where it is asked for
abbrev pub unicast_if : Bool → List ℕ
unicast_if true = unicast_capability
unicast_if false = []

-- the capability of asking for routes again (RFC 2918 section 2): its value is empty
abbrev pub route_refresh_capability : List ℕ
route_refresh_capability = 2 ∷ 0 ∷ []

-- the capabilities that this side tells: IPv4 unicast where it is asked for, AS numbers of four octets, and asking for
-- routes again
abbrev pub own_capabilities : Bool → ℕ → List ℕ
own_capabilities multiprotocol asn = unicast_if multiprotocol ++ four_octet_as_capability asn ++ route_refresh_capability

-- what a field of two octets shows of an AS: AS_TRANS where it doesn't fit (RFC 6793 section 9)
abbrev pub two_octet_as_of : ℕ → ℕ
two_octet_as_of asn = if nat_lt asn 65536 then asn else 23456

-- how many octets these are
abbrev pub own_capability_octets : Bool → ℕ
own_capability_octets multiprotocol = length (unicast_if multiprotocol) + 8

-- this side's OPEN: its one optional parameter holds its capabilities (RFC 4271 section 4.2, RFC 5492 section 4)
unfoldable pub open_of : Bool → ℕ → ℕ → ℕ → List ℕ
open_of multiprotocol asn hold_time identifier =
    header_of Open (31 + own_capability_octets multiprotocol) ++ 4 ∷ [] ++ to_be_bytes w16 (two_octet_as_of asn)
    ++ to_be_bytes w16 hold_time ++ to_be_bytes w32 identifier
    ++ (2 + own_capability_octets multiprotocol) ∷ 2 ∷ own_capability_octets multiprotocol ∷ [] ++ own_capabilities multiprotocol asn

-- its body
unfoldable pub open_body : Bool → ℕ → ℕ → ℕ → List ℕ
open_body multiprotocol asn hold_time identifier =
    4 ∷ to_be_bytes w16 (two_octet_as_of asn) ++ to_be_bytes w16 hold_time ++ to_be_bytes w32 identifier
    ++ (2 + own_capability_octets multiprotocol) ∷ 2 ∷ own_capability_octets multiprotocol ∷ own_capabilities multiprotocol asn

-- prefixes one after another (RFC 4271 section 4.3)
abbrev pub wire_form : List Prefix → List ℕ
wire_form prefixes = flat_map (λ prefix. spelling_of prefix.bits prefix.len) prefixes

-- an address without the bits behind a length, as a prefix; none where the length is over 32
abbrev pub prefix_if : (bits len : ℕ) (test : Bool) → nat_le len 32 ≡ test → Option Prefix
prefix_if bits len true small =
    Some (record {
      bits = masked_bits bits len;
      len = len;
      short = leb-true len 32 small;
      no_host_bits = mul-mod_left (bits / block_size len) (block_size len);
    })
prefix_if bits len false long = None

-- the prefix at the front, its further bits masked, and the octets behind it; none where it is longer than 32 bits or cut off
unfoldable pub prefix_at : List ℕ → Option (Prefix × List ℕ)
prefix_at [] = None
prefix_at (len ∷ rest) =
    if nat_lt (length rest) (octets_for len) then None
    else option_map (λ prefix. (prefix, drop (octets_for len) rest)) (prefix_if (address_from (take (octets_for len) rest)) len (nat_le len 32) refl)

-- the prefixes from the front on, where the first is this one
abbrev pub from_prefix : (List ℕ → List Prefix × List ℕ) → List ℕ → Option (Prefix × List ℕ) → List Prefix × List ℕ
from_prefix others octets None = ([], octets)
from_prefix others octets (Some found) = (found.0 ∷ (others found.1).0, (others found.1).1)

-- the prefixes from the front on, at most so many, and the octets behind them
unfoldable pub front_prefixes_within : ℕ → List ℕ → List Prefix × List ℕ
front_prefixes_within zero octets = ([], octets)
front_prefixes_within (suc most) octets = from_prefix (front_prefixes_within most) octets (prefix_at octets)

-- the prefixes from the front on, one after another, and the octets behind them: these begin with no prefix
abbrev pub front_prefixes : List ℕ → List Prefix × List ℕ
front_prefixes octets = front_prefixes_within (length octets) octets

-- the octets are prefixes to the end
abbrev pub are_prefixes_in : List ℕ → Bool
are_prefixes_in octets = length (front_prefixes octets).1 == 0

-- the prefixes that octets are to their end; none where one is longer than 32 bits or cut off
abbrev pub prefixes_in : List ℕ → Option (List Prefix)
prefixes_in octets = if are_prefixes_in octets then Some (front_prefixes octets).0 else None

-- the octets are these prefixes one after another, in whatever further bits (RFC 4271 section 4.3)
abbrev pub ArePrefixes : List ℕ → List Prefix → Type 0
ArePrefixes octets [] = octets ≡ []
ArePrefixes octets (prefix ∷ prefixes) =
    BeginsWith octets prefix.bits prefix.len (1 + octets_for prefix.len)
    × ArePrefixes (drop (1 + octets_for prefix.len) octets) prefixes

-- an UPDATE: the withdrawn routes and the path attributes, each behind its length, then what is announced
unfoldable pub update_of : List ℕ → List ℕ → List ℕ → List ℕ
update_of withdrawn attributes announced =
    header_of Update (23 + length withdrawn + length attributes + length announced)
    ++ to_be_bytes w16 (length withdrawn) ++ withdrawn
    ++ to_be_bytes w16 (length attributes) ++ attributes ++ announced

-- its body
unfoldable pub update_body : List ℕ → List ℕ → List ℕ → List ℕ
update_body withdrawn attributes announced =
    to_be_bytes w16 (length withdrawn) ++ (withdrawn ++ (to_be_bytes w16 (length attributes) ++ (attributes ++ announced)))

-- a field of two octets that counts those behind it: the counted ones, and the octets behind them; none where they are cut off
abbrev pub counted_at : List ℕ → Option (List ℕ × List ℕ)
counted_at [] = None
counted_at (high ∷ []) = None
counted_at (high ∷ low ∷ rest) =
    if nat_lt (length rest) (high * 256 + low) then None
    else Some (take (high * 256 + low) rest, drop (high * 256 + low) rest)

-- the path attributes and what is announced, behind the withdrawn routes
abbrev pub update_parts_behind : Option (List ℕ × List ℕ) → Option (List ℕ × List ℕ × List ℕ)
update_parts_behind None = None
update_parts_behind (Some found) = option_map (λ rest. (found.0, rest.0, rest.1)) (counted_at found.1)

-- the withdrawn routes, the path attributes and what is announced
abbrev pub update_parts : List ℕ → Option (List ℕ × List ℕ × List ℕ)
update_parts body = update_parts_behind (counted_at body)

-- an optional parameter or a capability: its type or code, and its value (RFC 4271 section 4.2, RFC 5492 section 4)
pub record Part : Type 0 where
  pub kind : ℕ
  pub value : List ℕ

-- parts one after another: of each its type or code, how many octets its value has, and these
abbrev pub parts_form : List Part → List ℕ
parts_form [] = []
parts_form (part ∷ parts) = part.kind ∷ length part.value ∷ (part.value ++ parts_form parts)

-- the part at the front, and the octets behind it; none where it is cut off
abbrev pub part_at : List ℕ → Option (Part × List ℕ)
part_at [] = None
part_at (kind ∷ []) = None
part_at (kind ∷ told ∷ rest) =
    if nat_lt (length rest) told then None
    else Some (record { kind = kind; value = take told rest }, drop told rest)

-- a part, and those behind it
abbrev pub before : Part → Option (List Part) → Option (List Part)
before part None = None
before part (Some parts) = Some (part ∷ parts)

-- the parts that octets are, at most so many; none where one is cut off
unfoldable pub parts_within : ℕ → List ℕ → Option (List Part)
parts_within most [] = Some []
parts_within zero (octet ∷ octets) = None
parts_within (suc most) (octet ∷ octets) =
    option_and_then (λ found. before found.0 (parts_within most found.1)) (part_at (octet ∷ octets))

-- the parts that octets are, none where one is cut off
abbrev pub parts_of : List ℕ → Option (List Part)
parts_of octets = parts_within (length octets) octets

-- the one, or else the other
abbrev pub or_else : Option ℕ → Option ℕ → Option ℕ
or_else None other = other
or_else (Some asn) other = Some asn

-- the AS number that four octets are
abbrev pub asn_in : List ℕ → Option ℕ
asn_in value = if length value == 4 then Some (from_be_bytes w32 value) else None

-- the AS number that a capability tells (RFC 6793 section 3)
abbrev pub asn_told : Part → Option ℕ
asn_told capability = if capability.kind == 65 then asn_in capability.value else None

-- the AS number that capabilities tell first
abbrev pub first_asn : List Part → Option ℕ
first_asn [] = None
first_asn (capability ∷ capabilities) = or_else (asn_told capability) (first_asn capabilities)

-- the capabilities that an optional parameter holds; none where their list is malformed
abbrev pub capabilities_in : Part → Option (List Part)
capabilities_in parameter = if parameter.kind == 2 then parts_of parameter.value else Some []

-- the capabilities that optional parameters hold, in their order
abbrev pub capabilities_of : List Part → Option (List Part)
capabilities_of [] = Some []
capabilities_of (parameter ∷ parameters) =
    option_and_then (λ first. option_map (λ more. first ++ more) (capabilities_of parameters)) (capabilities_in parameter)

-- the optional parameters of an OPEN; none where one is cut off or they don't end with the body
abbrev pub parameters_at : List ℕ → Option (List Part)
parameters_at body = if slice_index body 9 + 10 == length body then parts_of (drop 10 body) else None

-- the capabilities of an OPEN; none where its optional parameters, or a list of capabilities in them, are malformed
abbrev pub capabilities_at : List ℕ → Option (List Part)
capabilities_at body = option_and_then capabilities_of (parameters_at body)

-- the AS number that an OPEN tells: that of its first capability that tells one
abbrev pub asn_at : List ℕ → Option ℕ
asn_at body = option_and_then first_asn (capabilities_at body)
