-- A payload list, as the records of its text: the set of the payloads of all rows, or the first fault with its row.
use Rattle.std.specs.Prelude.{◌≡◌, ◌+◌, ◌++◌, ◌⊎◌, ℕ, Bool, false, List, [], ◌∷◌, length, Option, None, Some, Ok, Err, is_none, count_by}
use Rattle.std.specs.BTreeMap.{is_at}
use Rattle.std.specs.List.{AllZip, list_any}
use Rattle.net_prefix.specs.PayloadOrder.{payload_cmp}
use Rattle.net_prefix.specs.PayloadSets.{IsPayloadSet, has}
use Rattle.net_prefix.specs.declared.payload.Vrp.{Vrp}
use Rattle.vrp_csv.specs.PayloadRows.{IsHeader, IsRow}
use Rattle.vrp_csv.specs.declared.fault.RowFault.{RowFault}
use Rattle.vrp_csv.specs.declared.fault.RowFault.TheVariants.{Header, Fields, Asn, Prefix, Max, Io, NoMemory, Csv}
use Rattle.vrp_csv.specs.declared.list.Loaded.{Loaded}

-- whether a row gives the payload
abbrev pub gives : Vrp → Option Vrp → Bool
gives payload None = false
gives payload (Some other) = is_at (payload_cmp payload) other

-- the set has just the payloads that the rows give
abbrev pub IsSetOf : List (Option Vrp) → List Vrp → Type 0
IsSetOf answers set =
    IsPayloadSet set × ((payload : Vrp) → has set payload ≡ list_any (gives payload) answers)

-- rows of so many fields say this, one after another: each a payload, or that it is skipped
abbrev pub AreRows : ℕ → List (List (List ℕ)) → List (Option Vrp) → Type 0
AreRows width rows answers = AllZip (λ row answer. IsRow width row (Ok answer)) rows answers

-- what these rows load: their payloads, how many they are, and how many of them are skipped
abbrev pub IsLoadOf : ℕ → List (List (List ℕ)) → Loaded → Type 0
IsLoadOf width rows loaded =
    (answers : List (Option Vrp)) × AreRows width rows answers × IsSetOf answers loaded.set.keys
    × (loaded.rows ≡ length rows) × (loaded.skipped ≡ count_by is_none answers)

-- so many rows are without fault, and what stands behind them is this
abbrev pub IsGoodUpTo : ℕ → List (List (List ℕ)) → ℕ → List (List (List ℕ)) → Type 0
IsGoodUpTo width rows count rest =
    (before : List (List (List ℕ))) × (answers : List (Option Vrp)) × (rows ≡ before ++ rest)
    × AreRows width before answers × (count ≡ length before)

-- the first row with a fault stands behind so many rows
abbrev pub HasFaultBehind : ℕ → List (List (List ℕ)) → RowFault → ℕ → Type 0
HasFaultBehind width rows fault count =
    (faulty : List (List ℕ)) × (after : List (List (List ℕ)))
    × IsGoodUpTo width rows count (faulty ∷ after) × IsRow width faulty (Err fault)

-- why rows of so many fields are not loaded, found behind so many rows: their first fault, or that reading stopped
abbrev pub IsRefusedBehind : ℕ → List (List (List ℕ)) → RowFault → ℕ → Type 0
IsRefusedBehind width rows Header count = ⊥
IsRefusedBehind width rows Fields count = HasFaultBehind width rows Fields count
IsRefusedBehind width rows Asn count = HasFaultBehind width rows Asn count
IsRefusedBehind width rows Prefix count = HasFaultBehind width rows Prefix count
IsRefusedBehind width rows Max count = HasFaultBehind width rows Max count
IsRefusedBehind width rows Io count = (rest : List (List (List ℕ))) × IsGoodUpTo width rows count rest
IsRefusedBehind width rows NoMemory count = (rest : List (List (List ℕ))) × IsGoodUpTo width rows count rest
IsRefusedBehind width rows Csv count = ⊥

-- reading stopped at the header
abbrev pub IsStop : RowFault → Type 0
IsStop fault = (fault ≡ Io) ⊎ (fault ≡ NoMemory)

-- the records are a list that loads this
abbrev pub IsLoad : List (List (List ℕ)) → Loaded → Type 0
IsLoad [] loaded = ⊥
IsLoad (header ∷ rows) loaded = IsHeader header × IsLoadOf (length header) rows loaded

-- the first record is no header
abbrev pub HasNoHeader : List (List (List ℕ)) → Type 0
HasNoHeader [] = Unit {0}
HasNoHeader (header ∷ rows) = ¬ (IsHeader header)

-- the records behind a header are refused at this row, which counts from 1
abbrev pub IsRefusedAtRow : List (List (List ℕ)) → RowFault → ℕ → Type 0
IsRefusedAtRow [] fault row = ⊥
IsRefusedAtRow (header ∷ rows) fault row =
    IsHeader header × (count : ℕ) × IsRefusedBehind (length header) rows fault count × (row ≡ count + 1)

-- why the records are no list, and at which row: at row 0 that there is no header or that reading stopped, else why
-- the rows behind it are not loaded
abbrev pub IsRefused : List (List (List ℕ)) → RowFault → ℕ → Type 0
IsRefused records fault row =
    ((row ≡ 0) × (fault ≡ Header) × HasNoHeader records) ⊎ ((row ≡ 0) × IsStop fault)
    ⊎ IsRefusedAtRow records fault row
