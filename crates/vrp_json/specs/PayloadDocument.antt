-- A payload list in JSON, as the value of its text: the set of the payloads of all entries, or the first fault with its place.
use Rattle.std.specs.Prelude.{◌≡◌, ◌++◌, ◌⊎◌, ℕ, Bool, true, false, List, [], ◌∷◌, length, codes, count_by, if◌then◌else◌, ⊤, Option, None, Some, is_none, Ok, Err}
use Rattle.std.specs.List.{AllZip}
use Rattle.std.specs.Str.{IsUtf8, bytes_eq}
use Rattle.std.specs.Str.Lossy.{utf8_valid_len}
use Rattle.json.specs.Json.{Json, null, boolean, number, string, array, object, Items, no_items, item, Members, no_members, member, document}
use Rattle.net_prefix.specs.declared.payload.Vrp.{Vrp}
use Rattle.vrp_csv.specs.PayloadList.{IsSetOf}
use Rattle.vrp_csv.specs.declared.list.Loaded.{Loaded}
use Rattle.vrp_json.specs.PayloadEntries.{IsEntry}
use Rattle.vrp_json.specs.declared.fault.EntryFault.{EntryFault}
use Rattle.vrp_json.specs.declared.fault.JsonFault.{JsonFault}
use Rattle.vrp_json.specs.declared.fault.JsonFault.TheVariants.{Text, NotObject, NoRoas, NotArray, Entry, SecondRoas, NoMemory}

-- the values of an array
abbrev pub entries_of : Items → List Json
entries_of no_items = []
entries_of (item j js) = j ∷ entries_of js

-- whether the value is an array
abbrev pub is_array : Json → Bool
is_array null = false
is_array (boolean b) = false
is_array (number s) = false
is_array (string s) = false
is_array (array js) = true
is_array (object ms) = false

-- entries say this, one after another: each a payload, or that it is skipped
abbrev pub AreEntries : List Json → List (Option Vrp) → Type 0
AreEntries entries answers = AllZip (λ entry answer. IsEntry entry (Ok answer)) entries answers

-- what these entries load: their payloads, how many they are, and how many of them are skipped
abbrev pub IsLoadOf : List Json → Loaded → Type 0
IsLoadOf entries loaded =
    (answers : List (Option Vrp)) × AreEntries entries answers × IsSetOf answers loaded.set.keys
    × (loaded.rows ≡ length entries) × (loaded.skipped ≡ count_by is_none answers)

-- the first entry with a fault stands behind so many entries
abbrev pub HasFaultBehind : List Json → EntryFault → ℕ → Type 0
HasFaultBehind entries fault count =
    (before : List Json) × (faulty : Json) × (after : List Json) × (answers : List (Option Vrp))
    × (entries ≡ before ++ faulty ∷ after) × AreEntries before answers × (count ≡ length before)
    × IsEntry faulty (Err fault)

-- the first member of a name, and the members behind it
abbrev pub first_named : List ℕ → Members → Option (Json × Members)
first_named wanted no_members = None
first_named wanted (member name value rest) = if bytes_eq name wanted then Some (value, rest) else first_named wanted rest

-- the first member that is named roas, and the members behind it
abbrev pub first_roas : Members → Option (Json × Members)
first_roas ms = first_named (codes "roas") ms

-- the first member that is named roas has these entries, and these members stand behind it
abbrev pub HasRoas : Members → Items → Members → Type 0
HasRoas ms entries behind = first_roas ms ≡ Some (array entries, behind)

-- the members of an object load this
abbrev pub Loads : Members → Loaded → Type 0
Loads ms loaded =
    (entries : Items) × (behind : Members) × HasRoas ms entries behind × (first_roas behind ≡ None)
    × IsLoadOf (entries_of entries) loaded

-- why the members of an object are no list: the first fault of them
abbrev pub AreRefused : Members → JsonFault → Type 0
AreRefused ms (Text octet) = ⊥
AreRefused ms NotObject = ⊥
AreRefused ms NoRoas = first_roas ms ≡ None
AreRefused ms NotArray =
    (value : Json) × (behind : Members) × (first_roas ms ≡ Some (value, behind)) × (is_array value ≡ false)
AreRefused ms (Entry place fault) =
    (entries : Items) × (behind : Members) × HasRoas ms entries behind
    × HasFaultBehind (entries_of entries) fault place
AreRefused ms SecondRoas =
    (entries : Items) × (behind : Members) × HasRoas ms entries behind
    × (second : Json × Members) × (first_roas behind ≡ Some second)
    × (answers : List (Option Vrp)) × AreEntries (entries_of entries) answers
AreRefused ms NoMemory = ⊤

-- the value is a list that loads this
abbrev pub IsLoadOfValue : Json → Loaded → Type 0
IsLoadOfValue null loaded = ⊥
IsLoadOfValue (boolean b) loaded = ⊥
IsLoadOfValue (number s) loaded = ⊥
IsLoadOfValue (string s) loaded = ⊥
IsLoadOfValue (array js) loaded = ⊥
IsLoadOfValue (object ms) loaded = Loads ms loaded

-- why the value is no list
abbrev pub IsRefusedValue : Json → JsonFault → Type 0
IsRefusedValue null fault = fault ≡ NotObject
IsRefusedValue (boolean b) fault = fault ≡ NotObject
IsRefusedValue (number s) fault = fault ≡ NotObject
IsRefusedValue (string s) fault = fault ≡ NotObject
IsRefusedValue (array js) fault = fault ≡ NotObject
IsRefusedValue (object ms) fault = AreRefused ms fault

-- the octets are a list that loads this
abbrev pub IsLoad : List ℕ → Loaded → Type 0
IsLoad octets loaded = IsUtf8 octets × (value : Json) × (document octets ≡ Some value) × IsLoadOfValue value loaded

-- the octets are no JSON: they are UTF-8 up to this octet alone, or are no value of JSON
abbrev pub IsNoJson : List ℕ → ℕ → Type 0
IsNoJson octets octet =
    ((¬ (IsUtf8 octets)) × (octet ≡ utf8_valid_len octets)) ⊎ (IsUtf8 octets × (document octets ≡ None))

-- why the octets are no list: that they are no JSON, or why their value is no list, or that memory ran out
abbrev pub IsRefused : List ℕ → JsonFault → Type 0
IsRefused octets fault =
    (fault ≡ NoMemory) ⊎ ((octet : ℕ) × (fault ≡ Text octet) × IsNoJson octets octet)
    ⊎ (IsUtf8 octets × (value : Json) × (document octets ≡ Some value) × IsRefusedValue value fault)

-- both faults are of a text that is no JSON
abbrev pub AreTexts : JsonFault → JsonFault → Type 0
AreTexts fault other = (octet : ℕ) × (place : ℕ) × (fault ≡ Text octet) × (other ≡ Text place)
