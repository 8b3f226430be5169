-- The faults of an UPDATE (RFC 4271 section 6.3), and how a NOTIFICATION tells them (section 4.5).
use Rattle.std.specs.Prelude.{◌≡◌, ◌<◌, ◌++◌, map, ◌==◌, ◌||◌, ◌/◌, ◌^◌, nat_lt, not, if◌then◌else◌, Bool, false, ℕ, List, [], ◌∷◌, length, bit_and, slice_index, is_none, Option, Some, None, IsSome, MatchResult, Result}
use Rattle.std.specs.List.{list_any}
use Rattle.bgp_attr.specs.AttributeTable.{octet_of, type_of, class_of, class_flags_of, is_taken, length_of}
use Rattle.bgp_attr.specs.PathAttributes.{origin_at}
use Rattle.bgp_attr.specs.PathReading.{is_malformed_path}
use Rattle.bgp_attr.specs.ReceivedAttributes.{Attribute, is_optional, split_of}
use Rattle.bgp_attr.specs.declared.attribute_type.AttributeType.{AttributeType}
use Rattle.bgp_attr.specs.declared.attribute_type.AttributeType.TheVariants.{Origin, AsPath, NextHop, MultiExitDisc, LocalPref, AtomicAggregate, Aggregator}
use Rattle.bgp_attr.specs.declared.fault.UpdateFault.{UpdateFault}
use Rattle.bgp_attr.specs.declared.fault.UpdateFault.TheVariants as update
use Rattle.bgp_attr.specs.declared.peer.PeerKind.{PeerKind}

-- what is wrong with an UPDATE, with octets as lists
pub data Fault : Type 0 where
  MalformedAttributeList : Fault
  UnrecognizedWellKnown : (whole : List ℕ) → Fault
  MissingWellKnown : (kind : AttributeType) → Fault
  AttributeFlags : (whole : List ℕ) → Fault
  AttributeLength : (whole : List ℕ) → Fault
  InvalidOrigin : (whole : List ℕ) → Fault
  InvalidNextHop : (whole : List ℕ) → Fault
  InvalidNetworkField : Fault
  MalformedAsPath : Fault

-- the fault that an answer tells; want of memory is none
abbrev pub seen : UpdateFault → Option Fault
seen update.MalformedAttributeList = Some MalformedAttributeList
seen (update.UnrecognizedWellKnown whole) = Some (UnrecognizedWellKnown whole.now)
seen (update.MissingWellKnown kind) = Some (MissingWellKnown kind)
seen (update.AttributeFlags whole) = Some (AttributeFlags whole.now)
seen (update.AttributeLength whole) = Some (AttributeLength whole.now)
seen (update.InvalidOrigin whole) = Some (InvalidOrigin whole.now)
seen (update.InvalidNextHop whole) = Some (InvalidNextHop whole.now)
seen update.InvalidNetworkField = Some InvalidNetworkField
seen update.MalformedAsPath = Some MalformedAsPath
seen update.NoMemory = None

-- the answer tells this fault
abbrev pub Tells : UpdateFault → Option Fault → Type 0
Tells answer fault = IsSome fault × (seen answer ≡ fault)

-- a check passes where there is no fault, and else tells it
abbrev pub Judges : {A : Type 0} → Result A UpdateFault → Option Fault → Type 0
Judges result fault = MatchResult result (λ _. fault ≡ None) (λ answer. Tells answer fault)

-- the fault of the first test that holds
abbrev pub first_fault : List (Bool × Fault) → Option Fault
first_fault [] = None
first_fault (test ∷ more) = if test.0 then Some test.1 else first_fault more

-- an attribute of this code came before
abbrev pub has_code : List ℕ → ℕ → Bool
has_code earlier code = list_any (λ other. other == code) earlier

-- a value has another length than the one that it has to have
abbrev pub has_other_length : Option ℕ → List ℕ → Bool
has_other_length None value = false
has_other_length (Some n) value = not (length value == n)

-- an address that begins with this octet is no host's
abbrev pub is_no_host : ℕ → Bool
is_no_host octet = octet == 0 || octet == 127 || nat_lt 223 octet

-- the address is a host's
abbrev pub is_host : ℕ → Bool
is_host address = not (is_no_host (address / 2 ^ 24))

-- the tests of a value by its type: any four octets are a MULTI_EXIT_DISC or a LOCAL_PREF, any eight an AGGREGATOR
abbrev pub value_tests : PeerKind → AttributeType → Attribute → List (Bool × Fault)
value_tests kind Origin a = (is_none (origin_at (slice_index a.value 0)), InvalidOrigin a.whole) ∷ []
value_tests kind AsPath a = (is_malformed_path kind a.value, MalformedAsPath) ∷ []
value_tests kind NextHop a = (is_no_host (slice_index a.value 0), InvalidNextHop a.whole) ∷ []
value_tests kind MultiExitDisc a = []
value_tests kind LocalPref a = []
value_tests kind AtomicAggregate a = []
value_tests kind Aggregator a = []

-- the tests of an attribute that is taken, by its type: its class, its length, its value
abbrev pub known_tests : PeerKind → AttributeType → Attribute → List (Bool × Fault)
known_tests kind known a =
    (not (bit_and a.flags 192 == class_flags_of (class_of known)), AttributeFlags a.whole)
    ∷ (has_other_length (length_of known) a.value, AttributeLength a.whole)
    ∷ value_tests kind known a

-- the tests of an attribute by its type: only an optional one may be unknown, and nothing is looked at in one that is not taken from such a peer
abbrev pub type_tests : PeerKind → Option AttributeType → Attribute → List (Bool × Fault)
type_tests kind None a = (not (is_optional a.flags), UnrecognizedWellKnown a.whole) ∷ []
type_tests kind (Some known) a = if is_taken kind known then known_tests kind known a else []

-- the tests of an attribute, in the order in which they are made: first whether its code came before
abbrev pub attribute_tests : PeerKind → Bool → Attribute → List (Bool × Fault)
attribute_tests kind came a = (came, MalformedAttributeList) ∷ type_tests kind (type_of a.code) a

-- the fault of an attribute behind others of these codes
unfoldable pub attribute_fault : PeerKind → List ℕ → Attribute → Option Fault
attribute_fault kind earlier a = first_fault (attribute_tests kind (has_code earlier a.code) a)

-- the one fault, or else the other
abbrev pub or_else : Option Fault → Option Fault → Option Fault
or_else None other = other
or_else (Some fault) other = Some fault

-- octets behind the last whole attribute are one that is cut off
abbrev pub cut_fault : List ℕ → Option Fault
cut_fault [] = None
cut_fault (octet ∷ more) = Some MalformedAttributeList

-- the first fault, from left to right, of attributes behind others of these codes, and of the rest behind them
unfoldable pub fault_among : PeerKind → List ℕ → List Attribute → List ℕ → Option Fault
fault_among kind earlier [] rest = cut_fault rest
fault_among kind earlier (a ∷ more) rest = or_else (attribute_fault kind earlier a) (fault_among kind (a.code ∷ earlier) more rest)

-- no attribute has a fault behind those in front of it
abbrev pub AreFaultless : PeerKind → List Attribute → Type 0
AreFaultless kind attributes =
    (front more : List Attribute) (a : Attribute) → attributes ≡ front ++ a ∷ more → attribute_fault kind (map (λ b. b.code) front) a ≡ None

-- the fault is that of an attribute, and those in front of it have none
pub record IsFirstFault (kind : PeerKind) (attributes : List Attribute) (fault : Fault) : Type 0 where
  pub front : List Attribute
  pub faulty : Attribute
  pub more : List Attribute
  pub split : attributes ≡ front ++ faulty ∷ more
  pub faultless : AreFaultless kind front
  pub told : attribute_fault kind (map (λ b. b.code) front) faulty ≡ Some fault

-- no attribute has a fault, and one that is cut off is behind them
pub record IsCutFault (kind : PeerKind) (attributes : List Attribute) (rest : List ℕ) (fault : Fault) : Type 0 where
  pub faultless : AreFaultless kind attributes
  pub cut : 0 < length rest
  pub told : fault ≡ MalformedAttributeList

-- the first fault of the attributes that octets are, from left to right
unfoldable pub attributes_fault : PeerKind → List ℕ → Option Fault
attributes_fault kind octets = fault_among kind [] (split_of octets).0 (split_of octets).1

-- the subcode
abbrev pub subcode_of : UpdateFault → Option ℕ
subcode_of update.MalformedAttributeList = Some 1
subcode_of (update.UnrecognizedWellKnown whole) = Some 2
subcode_of (update.MissingWellKnown kind) = Some 3
subcode_of (update.AttributeFlags whole) = Some 4
subcode_of (update.AttributeLength whole) = Some 5
subcode_of (update.InvalidOrigin whole) = Some 6
subcode_of (update.InvalidNextHop whole) = Some 8
subcode_of update.InvalidNetworkField = Some 10
subcode_of update.MalformedAsPath = Some 11
subcode_of update.NoMemory = None

-- the code
abbrev pub code_of : UpdateFault → Option ℕ
code_of update.MalformedAttributeList = Some 3
code_of (update.UnrecognizedWellKnown whole) = Some 3
code_of (update.MissingWellKnown kind) = Some 3
code_of (update.AttributeFlags whole) = Some 3
code_of (update.AttributeLength whole) = Some 3
code_of (update.InvalidOrigin whole) = Some 3
code_of (update.InvalidNextHop whole) = Some 3
code_of update.InvalidNetworkField = Some 3
code_of update.MalformedAsPath = Some 3
code_of update.NoMemory = None

-- the data: the attribute as it came, or the code of the one that is missing
abbrev pub data_of : UpdateFault → List ℕ
data_of update.MalformedAttributeList = []
data_of (update.UnrecognizedWellKnown whole) = whole.now
data_of (update.MissingWellKnown kind) = octet_of kind ∷ []
data_of (update.AttributeFlags whole) = whole.now
data_of (update.AttributeLength whole) = whole.now
data_of (update.InvalidOrigin whole) = whole.now
data_of (update.InvalidNextHop whole) = whole.now
data_of update.InvalidNetworkField = []
data_of update.MalformedAsPath = []
data_of update.NoMemory = []

-- the number by which operators know the fault: want of memory alone has one (our own)
abbrev pub number_of : UpdateFault → Option ℕ
number_of update.MalformedAttributeList = None
number_of (update.UnrecognizedWellKnown whole) = None
number_of (update.MissingWellKnown kind) = None
number_of (update.AttributeFlags whole) = None
number_of (update.AttributeLength whole) = None
number_of (update.InvalidOrigin whole) = None
number_of (update.InvalidNextHop whole) = None
number_of update.InvalidNetworkField = None
number_of update.MalformedAsPath = None
number_of update.NoMemory = Some 21
