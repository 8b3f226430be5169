-- The entries of a payload list in JSON (our own form, as validators write it).
use Rattle.std.specs.Prelude.{◌≡◌, ℕ, Bool, true, false, List, codes, Option, None, Some, option_and_then, Result, Ok, Err}
use Rattle.json.specs.Find.{as_number, as_str, get}
use Rattle.json.specs.Json.{Json, null, boolean, number, string, array, object}
use Rattle.net_prefix.specs.MaxLengths.{IsMaxLength}
use Rattle.net_prefix.specs.PrefixText.{Writes}
use Rattle.net_prefix.specs.declared.payload.Vrp.{Vrp}
use Rattle.net_prefix.specs.declared.prefix.Prefix as declared
use Rattle.vrp_csv.specs.PayloadRows.{WritesAsn, WritesNumber, has_colon}
use Rattle.vrp_json.specs.declared.fault.EntryFault.{EntryFault}
use Rattle.vrp_json.specs.declared.fault.EntryFault.TheVariants.{Object, Asn, Prefix, Max}

-- whether the value is an object
abbrev pub is_object : Json → Bool
is_object null = false
is_object (boolean b) = false
is_object (number s) = false
is_object (string s) = false
is_object (array js) = false
is_object (object ms) = true

-- the text of a text, or of a number as it is written
abbrev pub word_of : Json → Option (List ℕ)
word_of null = None
word_of (boolean b) = None
word_of (number s) = Some s
word_of (string s) = Some s
word_of (array js) = None
word_of (object ms) = None

-- what the member asn has, which is text or a number
abbrev pub asn_word : Json → Option (List ℕ)
asn_word entry = option_and_then word_of (get (codes "asn") entry)

-- what the member prefix has, which is text
abbrev pub prefix_word : Json → Option (List ℕ)
prefix_word entry = option_and_then as_str (get (codes "prefix") entry)

-- what the member maxLength has, which is a number
abbrev pub max_word : Json → Option (List ℕ)
max_word entry = option_and_then as_number (get (codes "maxLength") entry)

-- the entry gives this AS
abbrev pub GivesAsn : Json → ℕ → Type 0
GivesAsn entry asn = (word : List ℕ) × (asn_word entry ≡ Some word) × WritesAsn word asn

-- the entry gives this maximum length, in one or two digits
abbrev pub GivesMax : Json → ℕ → Type 0
GivesMax entry max_len = (word : List ℕ) × (max_word entry ≡ Some word) × WritesNumber 2 word max_len

-- the entry is an object with this AS
abbrev pub HasAsn : Json → ℕ → Type 0
HasAsn entry asn = (is_object entry ≡ true) × GivesAsn entry asn

-- the entry has a prefix text, which has a colon, as only IPv6 prefixes have, or not
abbrev pub HasPrefixWord : Json → Bool → List ℕ → Type 0
HasPrefixWord entry colon word = (prefix_word entry ≡ Some word) × (has_colon word ≡ colon)

-- the entry has this AS and this prefix
abbrev pub HasPrefix : Json → ℕ → declared.Prefix → Type 0
HasPrefix entry asn prefix =
    HasAsn entry asn × (word : List ℕ) × HasPrefixWord entry false word × Writes word prefix.bits prefix.len

-- what an entry says: its payload, or that it is skipped, or its first fault
abbrev pub IsEntry : Json → Result (Option Vrp) EntryFault → Type 0
IsEntry entry (Ok (Some payload)) = HasPrefix entry payload.asn.0 payload.prefix × GivesMax entry payload.max_len
IsEntry entry (Ok None) = (asn : ℕ) × HasAsn entry asn × (word : List ℕ) × HasPrefixWord entry true word
IsEntry entry (Err Object) = is_object entry ≡ false
IsEntry entry (Err Asn) = (is_object entry ≡ true) × ((asn : ℕ) → ¬ (GivesAsn entry asn))
IsEntry entry (Err Prefix) =
    (asn : ℕ) × HasAsn entry asn
    × ((word : List ℕ) → prefix_word entry ≡ Some word → (has_colon word ≡ false) × ((prefix : declared.Prefix) → ¬ (Writes word prefix.bits prefix.len)))
IsEntry entry (Err Max) =
    (asn : ℕ) × (prefix : declared.Prefix) × HasPrefix entry asn prefix
    × ((max_len : ℕ) → GivesMax entry max_len → ¬ (IsMaxLength prefix.len max_len))
