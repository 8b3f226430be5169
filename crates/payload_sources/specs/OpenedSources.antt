-- What the system answers to paths. What it has to do with the system's files is trusted.
use Rattle.std.specs.Prelude.{◌≡◌, ℕ, List, Option, Some, None, Result, Ok, Err}
use Rattle.file_paths.specs.declared.steady.Stamp.{Stamp}
use Rattle.payload_sources.specs.PayloadSources.{SourceTexts, stamps_of}
use Rattle.payload_sources.specs.declared.fault.SourceFile.{SourceFile}
use Rattle.payload_sources.specs.declared.fault.SourceFile.TheVariants.{List as ThatList, Slurm}

-- what is known of a file that was opened: its text, and the stamp by which it is known again
pub record Seen : Type 0 where
  pub text : Option (List ℕ)
  pub stamp : Option Stamp

abbrev pub seen : {L : Type 0} → (L → Option (List ℕ)) → (L → Option Stamp) → L → Seen
seen remaining stamp file = record { text = remaining file; stamp = stamp file }

-- what opening has led to: no file, or one
abbrev pub opened : {L E : Type 0} → (L → Option (List ℕ)) → (L → Option Stamp) → Result L E → Option Seen
opened remaining stamp (Ok file) = Some (seen remaining stamp file)
opened remaining stamp (Err why) = None

-- so it is of some answer
abbrev pub Gives : {L E : Type 0} → (Result L E → Type 0) → (L → Option (List ℕ)) → (L → Option Stamp) → Option Seen → Type 0
Gives {L} {E} Answers remaining stamp list = (file : Result L E) × Answers file × (list ≡ opened remaining stamp file)

-- the list at a second with the SLURM file that was opened, or couldn't be
abbrev pub with_slurm : Option ℕ → Seen → Option Seen → Result SourceTexts SourceFile
with_slurm second list None = Err Slurm
with_slurm second list (Some file) = Ok (record { list = list.text; slurm = Some file.text; second = second; stamps = stamps_of list.stamp (Some file.stamp) })

-- what opening the SLURM file at its path has led to, where it has one, behind a list that was opened
abbrev pub OpensBehind : {L E : Type 0} → (List ℕ → Result L E → Type 0) → (L → Option (List ℕ)) → (L → Option Stamp) → Option ℕ → Option (List ℕ) → Seen → Result SourceTexts SourceFile → Type 0
OpensBehind Answers remaining stamp second None list sources = sources ≡ Ok (record { list = list.text; slurm = None; second = second; stamps = stamps_of list.stamp None })
OpensBehind Answers remaining stamp second (Some path) list sources = (file : Option Seen) × Gives (Answers path) remaining stamp file × (sources ≡ with_slurm second list file)

-- the same behind a list that was opened, or couldn't be
abbrev pub OpensThen : {L E : Type 0} → (List ℕ → Result L E → Type 0) → (L → Option (List ℕ)) → (L → Option Stamp) → Option ℕ → Option (List ℕ) → Option Seen → Result SourceTexts SourceFile → Type 0
OpensThen Answers remaining stamp second slurm None sources = sources ≡ Err ThatList
OpensThen Answers remaining stamp second slurm (Some list) sources = OpensBehind Answers remaining stamp second slurm list sources

-- what opening the list at its path has led to, and the SLURM file at its own where it has one, to be read at a second
abbrev pub Opens : {L E : Type 0} → (List ℕ → Result L E → Type 0) → (L → Option (List ℕ)) → (L → Option Stamp) → Option ℕ → List ℕ → Option (List ℕ) → Result SourceTexts SourceFile → Type 0
Opens Answers remaining stamp second csv slurm sources = (list : Option Seen) × Gives (Answers csv) remaining stamp list × OpensThen Answers remaining stamp second slurm list sources
