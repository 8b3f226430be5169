-- A payload list at a second since 1970, at which rows may have expired (own): those of the column Expires, which tells the last
-- second at which a row holds.
use Rattle.std.specs.Prelude.{◌≡◌, ◌<◌, ◌⊎◌, ℕ, List, [], ◌∷◌, length, Option, None, Some, Ok, is_none, count_by}
use Rattle.std.specs.List.{AllZip}
use Rattle.net_prefix.specs.declared.payload.Vrp.{Vrp}
use Rattle.vrp_csv.specs.PayloadList.{IsSetOf}
use Rattle.vrp_csv.specs.PayloadRows.{IsHeader, IsRow, WritesNumber, field_of}
use Rattle.vrp_csv.specs.declared.list.Loaded.{Loaded}

-- the text writes a second that is before this one; a text that writes none, as an empty one, is never over
abbrev pub IsOver : ℕ → List ℕ → Type 0
IsOver second text = (last : ℕ) × WritesNumber 20 text last × (last < second)

-- the row has expired at this second: its own Expires is over. That column stands behind the four of a payload, in rows of five
-- fields alone
abbrev pub IsExpired : ℕ → ℕ → List (List ℕ) → Type 0
IsExpired second width fields = (width ≡ 5) × IsOver second (field_of fields 4)

-- what is left of an answer: nothing where it has expired
abbrev pub IsLeft : Type 0 → Option Vrp → Option Vrp → Type 0
IsLeft Expired said answer = (Expired × (answer ≡ None)) ⊎ ((¬ Expired) × (answer ≡ said))

-- what a row says at a second: its payload, or that it is skipped or has expired; without a second nothing expires
abbrev pub IsRowAt : Option ℕ → ℕ → List (List ℕ) → Option Vrp → Type 0
IsRowAt None width fields answer = IsRow width fields (Ok answer)
IsRowAt (Some second) width fields answer = (said : Option Vrp) × IsRow width fields (Ok said) × IsLeft (IsExpired second width fields) said answer

-- rows of so many fields say this, one after another
abbrev pub AreRowsAt : Option ℕ → ℕ → List (List (List ℕ)) → List (Option Vrp) → Type 0
AreRowsAt second width rows answers = AllZip (λ row answer. IsRowAt second width row answer) rows answers

-- what these rows load: their payloads, how many they are, and how many of them are skipped or have expired
abbrev pub IsLoadOfAt : Option ℕ → ℕ → List (List (List ℕ)) → Loaded → Type 0
IsLoadOfAt second width rows loaded =
    (answers : List (Option Vrp)) × AreRowsAt second width rows answers × IsSetOf answers loaded.set.keys
    × (loaded.rows ≡ length rows) × (loaded.skipped ≡ count_by is_none answers)

-- the records are a list that loads this at a second
abbrev pub IsLoadAt : Option ℕ → List (List (List ℕ)) → Loaded → Type 0
IsLoadAt second [] loaded = ⊥
IsLoadAt second (header ∷ rows) loaded = IsHeader header × IsLoadOfAt second (length header) rows loaded
