-- The table of attribute types (RFC 4271 section 4.3).
use Rattle.std.specs.Prelude.{ℕ, Bool, true, false, List, [], ◌∷◌, length, Option, Some, None, ◌==◌, ◌&&◌, ◌%◌, not, is_none, if◌then◌else◌}
use Rattle.std.specs.List.{find}
use Rattle.bgp_attr.specs.PeerKinds.{is_external}
use Rattle.bgp_attr.specs.declared.attribute_type.AttributeType.{AttributeType}
use Rattle.bgp_attr.specs.declared.attribute_type.AttributeType.TheVariants.{Origin, AsPath, NextHop, MultiExitDisc, LocalPref, AtomicAggregate, Aggregator}
use Rattle.bgp_attr.specs.declared.attribute_type.Class.{Class}
use Rattle.bgp_attr.specs.declared.attribute_type.Class.TheVariants.{WellKnown, OptionalTransitive, OptionalNonTransitive}
use Rattle.bgp_attr.specs.declared.attribute_type.Row.{Row}
use Rattle.bgp_attr.specs.declared.attribute_type.TakenFrom.{TakenFrom}
use Rattle.bgp_attr.specs.declared.attribute_type.TakenFrom.TheVariants.{AllPeers, InternalPeers}
use Rattle.bgp_attr.specs.declared.peer.PeerKind.{PeerKind}

-- a row: the code, the class, the length that a value has where it has to be one, the flags that are written, and the peers from which the attribute is taken
abbrev pub columns : ℕ → Class → Option ℕ → ℕ → TakenFrom → Row
columns code class length flags taken_from = record { code = code; class = class; length = length; flags = flags; taken_from = taken_from }

-- the table
abbrev pub row_of : AttributeType → Row
row_of Origin = columns 1 WellKnown (Some 1) 64 AllPeers
row_of AsPath = columns 2 WellKnown None 64 AllPeers
row_of NextHop = columns 3 WellKnown (Some 4) 64 AllPeers
row_of MultiExitDisc = columns 4 OptionalNonTransitive (Some 4) 128 AllPeers
row_of LocalPref = columns 5 WellKnown (Some 4) 64 InternalPeers
row_of AtomicAggregate = columns 6 WellKnown (Some 0) 64 AllPeers
row_of Aggregator = columns 7 OptionalTransitive (Some 8) 192 AllPeers

-- the types, in rising order of their codes
abbrev pub types : List AttributeType
types = Origin ∷ AsPath ∷ NextHop ∷ MultiExitDisc ∷ LocalPref ∷ AtomicAggregate ∷ Aggregator ∷ []

-- the code of a type
abbrev pub octet_of : AttributeType → ℕ
octet_of known = (row_of known).code

-- the type that has a code
abbrev pub type_of : ℕ → Option AttributeType
type_of code = find (λ known. octet_of known == code) types

-- who has to know an attribute of a type, and who passes it on
abbrev pub class_of : AttributeType → Class
class_of known = (row_of known).class

-- the length that a value has, where it has to be one
abbrev pub length_of : AttributeType → Option ℕ
length_of known = (row_of known).length

-- the flags that are written
abbrev pub written_flags_of : AttributeType → ℕ
written_flags_of known = (row_of known).flags

-- the peer is one of these
abbrev pub is_taken_from : TakenFrom → PeerKind → Bool
is_taken_from AllPeers kind = true
is_taken_from InternalPeers kind = not (is_external kind)

-- an attribute of a type is taken from such a peer; else it is dropped, whatever it says (RFC 4271 section 5.1.5)
abbrev pub is_taken : PeerKind → AttributeType → Bool
is_taken kind known = is_taken_from (row_of known).taken_from kind

-- the optional bit (128) and the transitive bit (64) of a class
abbrev pub class_flags_of : Class → ℕ
class_flags_of WellKnown = 64
class_flags_of OptionalTransitive = 192
class_flags_of OptionalNonTransitive = 128

-- a value of so many octets is a list of at least one item, each of so many
abbrev pub is_list_of : ℕ → ℕ → Bool
is_list_of item n = not (n == 0) && n % item == 0

-- a value is an AS number that is not 0
abbrev pub is_an_as : List ℕ → Bool
is_an_as (a ∷ b ∷ c ∷ d ∷ []) = not (a == 0 && b == 0 && c == 0 && d == 0)
is_an_as other = false

-- a code that this speaker does not know, and whether an attribute of it with a value may go on to another peer
pub record CodeRow : Type 0 where
  pub code : ℕ
  pub may_travel : List ℕ → Bool

-- a row of the table of unknown codes
abbrev pub code_row : ℕ → (List ℕ → Bool) → CodeRow
code_row code may_travel = record { code = code; may_travel = may_travel }

-- the attribute ends at this speaker, whatever its value
abbrev pub never : List ℕ → Bool
never value = false

-- the value is a list of items, each of so many octets
abbrev pub items_of : ℕ → List ℕ → Bool
items_of item value = is_list_of item (length value)

-- the codes whose attributes do not travel, or only with a form of their own standard: COMMUNITIES (RFC 1997), ORIGINATOR_ID and
-- CLUSTER_LIST (RFC 4456), MP_REACH_NLRI and MP_UNREACH_NLRI (RFC 4760), EXTENDED COMMUNITIES (RFC 4360), AS4_PATH and AS4_AGGREGATOR
-- (RFC 6793), PMSI_TUNNEL (RFC 6514), Tunnel Encapsulation (RFC 9012), IPv6 Address Specific Extended Community (RFC 5701),
-- LARGE_COMMUNITY (RFC 8092), ONLY_TO_CUSTOMER (RFC 9234), BGP Prefix-SID (RFC 8669)
abbrev pub unknown_codes : List CodeRow
unknown_codes =
    code_row 8 (items_of 4)
    ∷ code_row 9 never
    ∷ code_row 10 never
    ∷ code_row 14 never
    ∷ code_row 15 never
    ∷ code_row 16 (items_of 8)
    ∷ code_row 17 never
    ∷ code_row 18 never
    ∷ code_row 22 never
    ∷ code_row 23 never
    ∷ code_row 25 (items_of 20)
    ∷ code_row 32 (items_of 12)
    ∷ code_row 35 is_an_as
    ∷ code_row 40 never
    ∷ []

-- what the row of a code says of a value; any other code may travel
abbrev pub travels_by : List CodeRow → ℕ → List ℕ → Bool
travels_by [] code value = true
travels_by (row ∷ more) code value = if code == row.code then row.may_travel value else travels_by more code value

-- an attribute of a code that this speaker does not know may be passed on with this value (own choice)
abbrev pub is_passed_on : ℕ → List ℕ → Bool
is_passed_on code value = is_none (type_of code) && travels_by unknown_codes code value
