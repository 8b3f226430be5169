-- What an UPDATE says, and what is wrong with one (RFC 4271 sections 4.3 and 6.3).
use Rattle.std.specs.Prelude.{◌≡◌, ◌⊎◌, ◌<◌, ◌≤◌, ◌+◌, ◌^◌, All, length, ℕ, if◌then◌else◌, List, [], ◌∷◌, Option, Some, None}
use Rattle.std.specs.Option.{option_map}
use Rattle.net_prefix.specs.declared.prefix.Prefix.{Prefix}
use Rattle.bgp_attr.specs.PathAttributes.{PathAttributes, missing_of}
use Rattle.bgp_attr.specs.AttributeFaults.{Fault, MalformedAttributeList, MissingWellKnown, InvalidNetworkField, or_else, attributes_fault}
use Rattle.bgp_attr.specs.AttributeReading.{attributes_in}
use Rattle.bgp_attr.specs.AttributeSpelling.{SpellsAttributes}
use Rattle.bgp_attr.specs.declared.attribute_type.AttributeType.{AttributeType}
use Rattle.bgp_attr.specs.declared.peer.PeerKind.{PeerKind}
use Rattle.bgp_msg.specs.MessageSpelling.{ArePrefixes, front_prefixes, are_prefixes_in, update_parts, update_body, wire_form}
use Rattle.bgp_msg.specs.MessageLimits.{max_message}

-- what an UPDATE says: the prefixes that it withdraws, its attributes, and the prefixes that it announces
pub record UpdateBody : Type 0 where
  pub withdrawn : List Prefix
  pub attrs : PathAttributes
  pub announced : List Prefix

-- what withdrawn routes, path attributes and network layer reachability information from such a peer say
abbrev pub said_by : PeerKind → List ℕ × List ℕ × List ℕ → UpdateBody
said_by kind parts =
    record {
      withdrawn = (front_prefixes parts.0).0;
      attrs = attributes_in kind parts.1;
      announced = (front_prefixes parts.2).0;
    }

-- octets that aren't prefixes to the end are a fault
abbrev pub prefixes_fault : List ℕ → Option Fault
prefixes_fault octets = if are_prefixes_in octets then None else Some InvalidNetworkField

-- a missing attribute is a fault where prefixes are announced
abbrev pub missing_fault : List ℕ → Option AttributeType → Option Fault
missing_fault [] missing = None
missing_fault (octet ∷ announced) missing = option_map MissingWellKnown missing

-- the first of faults that may be there
abbrev pub first_of : List (Option Fault) → Option Fault
first_of [] = None
first_of (fault ∷ others) = or_else fault (first_of others)

-- the faults of the parts of an UPDATE, in the order in which they are looked for (the order is our own)
abbrev pub parts_fault : PeerKind → List ℕ × List ℕ × List ℕ → Option Fault
parts_fault kind parts =
    first_of
    (prefixes_fault parts.0
    ∷ attributes_fault kind parts.1
    ∷ missing_fault parts.2 (missing_of kind (attributes_in kind parts.1))
    ∷ prefixes_fault parts.2
    ∷ [])

-- the first fault of an UPDATE whose parts are these, or whose lengths don't fit
abbrev pub fault_of_parts : PeerKind → Option (List ℕ × List ℕ × List ℕ) → Option Fault
fault_of_parts kind None = Some MalformedAttributeList
fault_of_parts kind (Some parts) = parts_fault kind parts

-- the first fault that is looked for before memory is taken: lengths, withdrawn prefixes, attributes
abbrev pub fault_before_memory : PeerKind → Option (List ℕ × List ℕ × List ℕ) → Option Fault
fault_before_memory kind None = Some MalformedAttributeList
fault_before_memory kind (Some parts) = first_of (prefixes_fault parts.0 ∷ attributes_fault kind parts.1 ∷ [])

-- the first fault of the UPDATE with this body, from a peer of this kind
unfoldable pub update_fault : PeerKind → List ℕ → Option Fault
update_fault kind body = fault_of_parts kind (update_parts body)

-- what the parts of an UPDATE say
abbrev pub update_of_parts : PeerKind → Option (List ℕ × List ℕ × List ℕ) → UpdateBody
update_of_parts kind None = said_by kind ([], [], [])
update_of_parts kind (Some parts) = said_by kind parts

-- what the UPDATE with this body, from a peer of this kind, says; nothing where its lengths don't fit
unfoldable pub update_in : PeerKind → List ℕ → UpdateBody
update_in kind body = update_of_parts kind (update_parts body)

-- the parts spell an UPDATE from such a peer: both lists of prefixes, attributes, and none of these missing where a prefix is announced
pub record AreParts (kind : PeerKind) (withdrawn attributes announced : List ℕ) (update : UpdateBody) : Type 0 where
  pub withdrawn_are : ArePrefixes withdrawn update.withdrawn
  pub attributes_are : SpellsAttributes kind attributes update.attrs
  pub announced_are : ArePrefixes announced update.announced
  pub complete : (announced ≡ []) ⊎ (missing_of kind update.attrs ≡ None)

-- the body spells the UPDATE: each counted part is as long as it is told
abbrev pub IsUpdate : PeerKind → List ℕ → UpdateBody → Type 0
IsUpdate kind body update =
    (withdrawn attributes announced : List ℕ) × (update_parts body ≡ Some (withdrawn, attributes, announced))
    × AreParts kind withdrawn attributes announced update

-- the body that is written of these prefixes and these octets of attributes
abbrev pub written_body : List Prefix → List ℕ → List Prefix → List ℕ
written_body withdrawn attributes announced = update_body (wire_form withdrawn) attributes (wire_form announced)

-- it fits a message, and its attributes have no fault and lack none where a prefix is announced
pub record CanBeWritten (kind : PeerKind) (withdrawn : List Prefix) (attributes : List ℕ) (announced : List Prefix) : Type 0 where
  pub withdrawn_are : All (λ prefix. prefix.bits < 2 ^ 32) withdrawn
  pub announced_are : All (λ prefix. prefix.bits < 2 ^ 32) announced
  pub fits : 23 + length (wire_form withdrawn) + length attributes + length (wire_form announced) ≤ max_message
  pub faultless : attributes_fault kind attributes ≡ None
  pub complete : (announced ≡ []) ⊎ (missing_of kind (attributes_in kind attributes) ≡ None)
