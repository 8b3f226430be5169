-- The records that a reader of `csv` has left, in its default dialect.
use Rattle.std.specs.Prelude.{◌≡◌, ◌+◌, ℕ, Bool, true, false, List, [], ◌∷◌, length, Option, Some, option_map}
use Rattle.csv.specs.Reading.{Ready, default_config, is_flexible, reader_config, reader_state, reader_trim, records_from, source_of}
use Rattle.csv.specs.declared.error.ErrorKind.{ErrorKind}
use Rattle.csv.specs.declared.error.ErrorKind.TheVariants as kind
use Rattle.csv.specs.declared.parser.State.{State}
use Rattle.csv.specs.declared.reader.Reader.{Reader}
use Rattle.csv.specs.declared.reader.Trim.TheVariants as trim
use Rattle.vrp_csv.specs.declared.fault.RowFault.{RowFault}
use Rattle.vrp_csv.specs.declared.fault.RowFault.TheVariants.{Io, NoMemory, Csv}

-- the records of a text from a state
abbrev pub records_at : State → List ℕ → List (List (List ℕ))
records_at state text = records_from default_config (length text + 1) state text

-- the records that a reader has left, where the octets under it are known
abbrev pub records_left : {R : Type 0} → (R → Option (List ℕ)) → Reader R → Option (List (List (List ℕ)))
records_left remaining reader = option_map (records_at (reader_state reader)) (source_of remaining reader)

-- the reader gives each record of the default dialect, of whatever length
abbrev pub IsPlain : {R : Type 0} → Reader R → Type 0
IsPlain reader =
    (reader_trim reader ≡ trim.None) × Ready reader × (is_flexible reader ≡ true)
    × (reader_config reader ≡ default_config)

-- of these records the next one was found with these fields and leaves the others, or there is none
abbrev pub IsNext : List (List (List ℕ)) → Bool → List (List ℕ) → Option (List (List (List ℕ))) → Type 0
IsNext records true fields left = (rest : List (List (List ℕ))) × (records ≡ fields ∷ rest) × (left ≡ Some rest)
IsNext records false fields left = records ≡ []

-- what the fault of a read means for the list: the device's, want of memory, or any other
abbrev pub read_fault_of : ErrorKind → RowFault
read_fault_of (kind.Io e) = Io
read_fault_of kind.OutOfMemory = NoMemory
read_fault_of (kind.Utf8 pos err) = Csv
read_fault_of (kind.UnequalLengths pos expected len) = Csv
read_fault_of (kind.Serialize text) = Csv
read_fault_of (kind.Deserialize pos err) = Csv
