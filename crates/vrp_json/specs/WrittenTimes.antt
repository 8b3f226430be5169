-- When a list in JSON says that it was written (own): by what its first member metadata has, which is the first of buildtime,
-- a time (rpki-client), generated, a second since 1970 (Routinator, StayRTR), and generatedTime, a time (Routinator).
use Rattle.std.specs.Prelude.{◌≡◌, ◌<◌, ◌^◌, ℕ, ℤ, pos, int_div, List, codes, Option, None, Some, option_map, Ok}
use Rattle.jiff.specs.Words.{parse_timestamp}
use Rattle.json.specs.Find.{as_number, as_str, get}
use Rattle.json.specs.Json.{Json, null, boolean, number, string, array, object, Members}
use Rattle.vrp_csv.specs.PayloadRows.{WritesNumber}
use Rattle.vrp_json.specs.PayloadDocument.{first_named}
use Rattle.vrp_json.specs.declared.written.Written.{Written}
use Rattle.vrp_json.specs.declared.written.Written.TheVariants.{Untold, At, Unread}

-- the text writes a time of this second since 1970 (RFC 3339, as jiff reads it), a part of a second left out
abbrev pub WritesTime : List ℕ → ℕ → Type 0
WritesTime text second = (nanos : ℤ) × (parse_timestamp text ≡ Ok nanos) × (int_div nanos (pos 1000000000) ≡ pos second)

-- what a value tells that is to be a text with a time
abbrev pub IsTimeText : Json → Written → Type 0
IsTimeText value Untold = ⊥
IsTimeText value (At second) = (text : List ℕ) × (as_str value ≡ Some text) × WritesTime text second
IsTimeText value Unread = (text : List ℕ) → as_str value ≡ Some text → (second : ℕ) → ¬ (WritesTime text second)

-- what a value tells that is to be a number of seconds since 1970
abbrev pub IsSecond : Json → Written → Type 0
IsSecond value Untold = ⊥
IsSecond value (At second) = (word : List ℕ) × (as_number value ≡ Some word) × WritesNumber 20 word second
IsSecond value Unread =
    (word : List ℕ) → as_number value ≡ Some word → (second : ℕ) → second < 2 ^ 64 → ¬ (WritesNumber 20 word second)

-- what a member tells, if it is there, or else what others do
abbrev pub FirstOf : Option Json → (Json → Written → Type 0) → (Written → Type 0) → Written → Type 0
FirstOf None Tells Others written = Others written
FirstOf (Some value) Tells Others written = Tells value written

-- what the metadata of a list tell: what the first of those members does that is there
abbrev pub IsToldBy : Json → Written → Type 0
IsToldBy metadata written =
    FirstOf (get (codes "buildtime") metadata) IsTimeText
    (FirstOf (get (codes "generated") metadata) IsSecond (FirstOf (get (codes "generatedTime") metadata) IsTimeText (λ w. w ≡ Untold))) written

-- the same, if there are any
abbrev pub IsToldIn : Option Json → Written → Type 0
IsToldIn None written = written ≡ Untold
IsToldIn (Some metadata) written = IsToldBy metadata written

-- the value of the first member that is named metadata
abbrev pub metadata_of : Members → Option Json
metadata_of ms = option_map (λ m. m.0) (first_named (codes "metadata") ms)

-- when the list that is this value says that it was written
abbrev pub IsWritten : Json → Written → Type 0
IsWritten null written = written ≡ Untold
IsWritten (boolean b) written = written ≡ Untold
IsWritten (number s) written = written ≡ Untold
IsWritten (string s) written = written ≡ Untold
IsWritten (array js) written = written ≡ Untold
IsWritten (object ms) written = IsToldIn (metadata_of ms) written
