-- Where a reader stands in a list, as the tokens that it has left (over the grammar of `json`).
use Rattle.std.specs.Prelude.{◌≡◌, ℕ, Bool, true, false, List, [], ◌∷◌, codes, ◌⊎◌, ⊤, Option, None, Some, Result, Ok, Err}
use Rattle.json.specs.Json.{Json, Items, Members, array, items, members, read_key, value}
use Rattle.json.specs.Token.{Token}
use Rattle.vrp_csv.specs.declared.list.Loaded.{Loaded}
use Rattle.vrp_json.specs.ExpiredEntries.{IsLoadOfAt}
use Rattle.vrp_json.specs.PayloadDocument.{HasFaultBehind, entries_of, first_named, is_array}
use Rattle.vrp_json.specs.declared.fault.JsonFault.{JsonFault}
use Rattle.vrp_json.specs.declared.fault.JsonFault.TheVariants.{Text, NotObject, NoRoas, NotArray, Entry, SecondRoas, NoMemory}

-- an object comes next
abbrev pub opens_object : List Token → Bool
opens_object [] = false
opens_object (Token.begin_object ∷ ts) = true
opens_object (Token.end_object ∷ ts) = false
opens_object (Token.begin_array ∷ ts) = false
opens_object (Token.end_array ∷ ts) = false
opens_object (Token.key s ∷ ts) = false
opens_object (Token.string s ∷ ts) = false
opens_object (Token.number s ∷ ts) = false
opens_object (Token.boolean b ∷ ts) = false
opens_object (Token.null ∷ ts) = false
opens_object (Token.bad ∷ ts) = false

-- an array comes next
abbrev pub opens_array : List Token → Bool
opens_array [] = false
opens_array (Token.begin_object ∷ ts) = false
opens_array (Token.end_object ∷ ts) = false
opens_array (Token.begin_array ∷ ts) = true
opens_array (Token.end_array ∷ ts) = false
opens_array (Token.key s ∷ ts) = false
opens_array (Token.string s ∷ ts) = false
opens_array (Token.number s ∷ ts) = false
opens_array (Token.boolean b ∷ ts) = false
opens_array (Token.null ∷ ts) = false
opens_array (Token.bad ∷ ts) = false

-- before the value of a whole text
abbrev pub IsAtValue : Json → List Token → Type 0
IsAtValue j ts = value 128 ts ≡ Some (j, [])

-- among the members of the list's object, before these
abbrev pub IsAtMembers : Members → List Token → Type 0
IsAtMembers ms ts = (turns : ℕ) × (after : List Token) × (members (value 127) turns ts ≡ Some (ms, after))

-- before the value of such a member, behind which these are
abbrev pub IsAtMemberValue : Json → Members → List Token → Type 0
IsAtMemberValue j behind ts = (after : List Token) × (value 127 ts ≡ Some (j, after)) × IsAtMembers behind after

-- among the items of such a value, before these
abbrev pub IsAtItems : Items → Members → List Token → Type 0
IsAtItems js behind ts =
    (turns : ℕ) × (after : List Token) × (items (value 126) turns ts ≡ Some (js, after)) × IsAtMembers behind after

-- no name comes next: the object's end, which was passed, or no part of an object
abbrev pub NoNameComes : List Token → List Token → Type 0
NoNameComes old new = (read_key old ≡ Some (None, new)) ⊎ (read_key old ≡ None)

-- before the value of the first member of a name, or behind all where none has it
abbrev pub FindsMember : List ℕ → Members → Bool → List Token → Type 0
FindsMember wanted ms true ts =
    (j : Json) × (behind : Members) × (first_named wanted ms ≡ Some (j, behind)) × IsAtMemberValue j behind ts
FindsMember wanted ms false ts = first_named wanted ms ≡ None

-- the same of the name roas
abbrev pub FindsRoas : Members → Bool → List Token → Type 0
FindsRoas ms found ts = FindsMember (codes "roas") ms found ts

-- why the items of an array aren't loaded
abbrev pub AreRefusedItems : List Json → JsonFault → Type 0
AreRefusedItems entries (Text octet) = ⊥
AreRefusedItems entries NotObject = ⊥
AreRefusedItems entries NoRoas = ⊥
AreRefusedItems entries NotArray = ⊥
AreRefusedItems entries (Entry place fault) = HasFaultBehind entries fault place
AreRefusedItems entries SecondRoas = ⊥
AreRefusedItems entries NoMemory = ⊤

-- what reading the items at a second leads to
abbrev pub ReadsItems : Option ℕ → Items → Members → Result Loaded JsonFault → List Token → Type 0
ReadsItems second js behind (Ok loaded) ts = IsLoadOfAt second (entries_of js) loaded × IsAtMembers behind ts
ReadsItems second js behind (Err fault) ts = AreRefusedItems (entries_of js) fault

-- what reading a member's value at a second leads to
abbrev pub ReadsValue : Option ℕ → Json → Members → Result Loaded JsonFault → List Token → Type 0
ReadsValue second j behind (Ok loaded) ts =
    (js : Items) × (j ≡ array js) × IsLoadOfAt second (entries_of js) loaded × IsAtMembers behind ts
ReadsValue second j behind (Err fault) ts =
    ((fault ≡ NotArray) × (is_array j ≡ false)) ⊎ ((js : Items) × (j ≡ array js) × AreRefusedItems (entries_of js) fault)
