-- A payload list in JSON at a second since 1970, at which entries may have expired (own): the member expires tells the last second
-- at which an entry holds.
use Rattle.std.specs.Prelude.{◌≡◌, ℕ, List, length, codes, count_by, is_none, Option, None, Some, option_and_then, Ok}
use Rattle.std.specs.List.{AllZip}
use Rattle.std.specs.Str.{IsUtf8}
use Rattle.json.specs.Find.{as_number, get}
use Rattle.json.specs.Json.{Json, null, boolean, number, string, array, object, Items, Members, document}
use Rattle.net_prefix.specs.declared.payload.Vrp.{Vrp}
use Rattle.vrp_csv.specs.ExpiredRows.{IsLeft, IsOver}
use Rattle.vrp_csv.specs.PayloadList.{IsSetOf}
use Rattle.vrp_csv.specs.declared.list.Loaded.{Loaded}
use Rattle.vrp_json.specs.PayloadDocument.{HasRoas, entries_of, first_roas}
use Rattle.vrp_json.specs.PayloadEntries.{IsEntry}

-- what the member expires has, which is a number
abbrev pub expires_word : Json → Option (List ℕ)
expires_word entry = option_and_then as_number (get (codes "expires") entry)

-- the entry has expired at this second: its own member expires is over
abbrev pub IsExpired : ℕ → Json → Type 0
IsExpired second entry = (word : List ℕ) × (expires_word entry ≡ Some word) × IsOver second word

-- what an entry says at a second: its payload, or that it is skipped or has expired; without a second nothing expires
abbrev pub IsEntryAt : Option ℕ → Json → Option Vrp → Type 0
IsEntryAt None entry answer = IsEntry entry (Ok answer)
IsEntryAt (Some second) entry answer = (said : Option Vrp) × IsEntry entry (Ok said) × IsLeft (IsExpired second entry) said answer

-- entries say this, one after another
abbrev pub AreEntriesAt : Option ℕ → List Json → List (Option Vrp) → Type 0
AreEntriesAt second entries answers = AllZip (λ entry answer. IsEntryAt second entry answer) entries answers

-- what these entries load: their payloads, how many they are, and how many of them are skipped or have expired
abbrev pub IsLoadOfAt : Option ℕ → List Json → Loaded → Type 0
IsLoadOfAt second entries loaded =
    (answers : List (Option Vrp)) × AreEntriesAt second entries answers × IsSetOf answers loaded.set.keys
    × (loaded.rows ≡ length entries) × (loaded.skipped ≡ count_by is_none answers)

-- the members of an object load this
abbrev pub LoadsAt : Option ℕ → Members → Loaded → Type 0
LoadsAt second ms loaded =
    (entries : Items) × (behind : Members) × HasRoas ms entries behind × (first_roas behind ≡ None)
    × IsLoadOfAt second (entries_of entries) loaded

-- the value is a list that loads this
abbrev pub IsLoadOfValueAt : Option ℕ → Json → Loaded → Type 0
IsLoadOfValueAt second null loaded = ⊥
IsLoadOfValueAt second (boolean b) loaded = ⊥
IsLoadOfValueAt second (number s) loaded = ⊥
IsLoadOfValueAt second (string s) loaded = ⊥
IsLoadOfValueAt second (array js) loaded = ⊥
IsLoadOfValueAt second (object ms) loaded = LoadsAt second ms loaded

-- the octets are a list that loads this at a second
abbrev pub IsLoadAt : Option ℕ → List ℕ → Loaded → Type 0
IsLoadAt second octets loaded = IsUtf8 octets × (value : Json) × (document octets ≡ Some value) × IsLoadOfValueAt second value loaded
