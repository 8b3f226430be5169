-- What is wrong with a message, in the order in which it is looked for (RFC 4271 section 6; the order is our own).
use Rattle.std.specs.Prelude.{ℕ, ◌+◌, ◌*◌, ◌^◌, ◌==◌, nat_lt, if◌then◌else◌, Bool, true, false, not, ◌||◌, List, [], ◌∷◌, Option, Some, None, is_none, length, slice_index}
use Rattle.std.specs.Int.{w16, to_be_bytes}
use Rattle.std.specs.List.{list_all}
use Rattle.bgp_msg.specs.declared.frame.MessageType.{MessageType}
use Rattle.bgp_msg.specs.declared.fault.HeaderFault.{HeaderFault}
use Rattle.bgp_msg.specs.declared.fault.HeaderFault.TheVariants.{ConnectionNotSynchronized, BadMessageLength, BadMessageType}
use Rattle.bgp_msg.specs.declared.fault.OpenFault.{OpenFault}
use Rattle.bgp_msg.specs.declared.fault.OpenFault.TheVariants.{MalformedParameters, UnsupportedVersion, BadPeerAs, BadIdentifier, UnsupportedParameter, UnacceptableHoldTime, UnsupportedCapability}
use Rattle.bgp_msg.specs.MessageSpelling.{kind_at, is_lawful_length, told_length, has_marker, Part, four_octet_as_capability, parameters_at, capabilities_at, asn_at}
use Rattle.bgp_msg.specs.declared.open_message.Expected.{Expected}
use Rattle.bgp_msg.specs.MessageLimits.{max_message}

-- the first fault whose test holds
abbrev pub first_fault : {F : Type 0} → List (Bool × F) → Option F
first_fault [] = None
first_fault (row ∷ rows) = if row.0 then Some row.1 else first_fault rows

-- no type has this octet
abbrev pub is_unknown : Option MessageType → Bool
is_unknown None = true
is_unknown (Some kind) = false

-- a message of this type may not have this length
abbrev pub is_unlawful : Option MessageType → ℕ → Bool
is_unlawful None told = false
is_unlawful (Some kind) told = not (is_lawful_length kind told)

-- the faults of a header (RFC 4271 section 6.1)
unfoldable pub header_fault : List ℕ → Option HeaderFault
header_fault octets =
    first_fault
    ((not (has_marker octets), ConnectionNotSynchronized)
    ∷ (nat_lt (told_length octets) 19 || nat_lt max_message (told_length octets), BadMessageLength (told_length octets))
    ∷ (is_unknown (kind_at (slice_index octets 18)), BadMessageType (slice_index octets 18))
    ∷ (is_unlawful (kind_at (slice_index octets 18)) (told_length octets), BadMessageLength (told_length octets))
    ∷ [])

-- the AS number isn't this one
abbrev pub is_other : Option ℕ → ℕ → Bool
is_other None asn = true
is_other (Some told) asn = not (told == asn)

-- the hold time and the identifier of an OPEN (RFC 4271 section 4.2)
abbrev pub hold_time_at : List ℕ → ℕ
hold_time_at body = slice_index body 3 * 256 + slice_index body 4

abbrev pub identifier_at : List ℕ → ℕ
identifier_at body = slice_index body 5 * 2 ^ 24 + slice_index body 6 * 2 ^ 16 + slice_index body 7 * 2 ^ 8 + slice_index body 8

-- an optional parameter is of another type than that of capabilities
abbrev pub has_other_parameter : Option (List Part) → Bool
has_other_parameter None = false
has_other_parameter (Some parameters) = not (list_all (λ parameter. parameter.kind == 2) parameters)

-- the faults of an OPEN (RFC 4271 section 6.2, RFC 5492 section 5)
unfoldable pub open_fault : List ℕ → Expected → Option OpenFault
open_fault body expected =
    first_fault
    ((nat_lt (length body) 10, MalformedParameters)
    ∷ (not (slice_index body 0 == 4), UnsupportedVersion)
    ∷ (is_none (capabilities_at body), MalformedParameters)
    ∷ (has_other_parameter (parameters_at body), UnsupportedParameter)
    ∷ (is_none (asn_at body), UnsupportedCapability expected.own_asn)
    ∷ (is_other (asn_at body) expected.peer_asn.0, BadPeerAs)
    ∷ (identifier_at body == 0 || identifier_at body == expected.own_identifier, BadIdentifier)
    ∷ (hold_time_at body == 1 || hold_time_at body == 2, UnacceptableHoldTime)
    ∷ [])

-- the error subcodes of RFC 4271 section 6.1
abbrev pub header_subcode : HeaderFault → ℕ
header_subcode ConnectionNotSynchronized = 1
header_subcode (BadMessageLength told) = 2
header_subcode (BadMessageType octet) = 3

-- the data of a NOTIFICATION: the length or the type that was received
abbrev pub header_data : HeaderFault → List ℕ
header_data ConnectionNotSynchronized = []
header_data (BadMessageLength told) = to_be_bytes w16 told
header_data (BadMessageType octet) = octet ∷ []

-- the error subcodes of RFC 4271 section 6.2 and RFC 5492 section 5
abbrev pub open_subcode : OpenFault → ℕ
open_subcode MalformedParameters = 0
open_subcode UnsupportedVersion = 1
open_subcode BadPeerAs = 2
open_subcode BadIdentifier = 3
open_subcode UnsupportedParameter = 4
open_subcode UnacceptableHoldTime = 6
open_subcode (UnsupportedCapability own) = 7

-- the data of a NOTIFICATION: the version that is spoken, or this side's capability
abbrev pub open_data : OpenFault → List ℕ
open_data UnsupportedVersion = 0 ∷ 4 ∷ []
open_data (UnsupportedCapability own) = four_octet_as_capability own.0
open_data other = []
