-- What the system answers: what paths lead to, what listens, and which second it is. What it has to do with the system's
-- files, sockets and clock is trusted.
use Rattle.std.specs.Prelude.{◌≡◌, ℕ, List, Option, None, Some, Result, Ok, Err, option_map, string_bytes, ⊤, if◌then◌else◌}
use Rattle.toml.specs.Data.{Members}
use Rattle.file_paths.specs.OpenedFiles.{AreOctetsOf, OpenedFile}
use Rattle.file_paths.specs.declared.steady.Stamp.{Stamp}
use Rattle.settings_keys.specs.Keys.{IsTableOf}
use Rattle.wires.specs.Wires.{WireState}
use Rattle.payload_sources.specs.OpenedSources.{Opens}
use Rattle.payload_sources.specs.PayloadSources.{SourceTexts}
use Rattle.payload_sources.specs.declared.fault.SourceFile.{SourceFile}
use Rattle.cache_settings.specs.ToldSettings.{IsToldBy}
use Rattle.cache_settings.specs.declared.settings.CacheSettings.{CacheSettings}
use Rattle.cache_settings.specs.declared.settings.Stale.{Stale}
use Rattle.cache_settings.specs.declared.settings.Stale.TheVariants.{Serve, Withdraw}
use Rattle.cache_watch.specs.declared.telling.FileAge.{FileAge}

-- the second at which what has expired is left out of a list, where the settings say so
abbrev pub expiring_at : CacheSettings → ℕ → Option ℕ
expiring_at settings second = if settings.expires then Some second else None

-- the texts of the settings' files, the list and the SLURM file where there is one, or which of them couldn't be opened, as
-- answers to their paths have it; they are read at this second
abbrev pub GivesAt : {L E : Type 0} → (List ℕ → Result L E → Type 0) → (L → Option (List ℕ)) → (L → Option Stamp) → CacheSettings → ℕ → Result SourceTexts SourceFile → Type 0
GivesAt Answers remaining stamp settings second sources = Opens Answers remaining stamp (expiring_at settings second) (string_bytes settings.csv) (option_map string_bytes settings.slurm) sources

-- at some second
abbrev pub Gives : {L E : Type 0} → (List ℕ → Result L E → Type 0) → (L → Option (List ℕ)) → (L → Option Stamp) → CacheSettings → Result SourceTexts SourceFile → Type 0
Gives Answers remaining stamp settings sources = (second : ℕ) × GivesAt Answers remaining stamp settings second sources

-- a file that was opened at the path, or none
abbrev pub IsOpenedAt : List ℕ → Result OpenedFile (Unit {0}) → Type 0
IsOpenedAt path (Ok file) = file.path ≡ path
IsOpenedAt path (Err none) = ⊤

-- the texts of the settings' files, with their stamps, as the system opens them at their paths
abbrev pub SystemGives : CacheSettings → Result SourceTexts SourceFile → Type 0
SystemGives settings sources = Gives IsOpenedAt (λ file. file.text) (λ file. file.stamp) settings sources

-- the settings are those that octets tell, which are those of the text, where that is known
pub record AreSettingsOf (text : Option (List ℕ)) (settings : CacheSettings) : Type 0 where
  pub octets : List ℕ
  pub read : AreOctetsOf text octets
  pub table : Members
  pub spelled : IsTableOf octets table
  pub told : IsToldBy table settings

-- those of a file that is answered
abbrev pub AreSettingsAt : {L E : Type 0} → (Result L E → Type 0) → (L → Option (List ℕ)) → CacheSettings → Type 0
AreSettingsAt {L} {E} Answers remaining settings = (file : L) × Answers (Ok file) × AreSettingsOf (remaining file) settings

-- how old the list's file is, as the answer to its path has it, where lists are withdrawn that are too old; else that doesn't matter
abbrev pub AgesBy : Stale → (FileAge → Type 0) → FileAge → Type 0
AgesBy Serve Answers age = age ≡ record { second = 0; seconds = 0 }
AgesBy Withdraw Answers age = Answers age

abbrev pub Ages : (List ℕ → FileAge → Type 0) → CacheSettings → FileAge → Type 0
Ages Answers settings age = AgesBy settings.stale (Answers (string_bytes settings.csv)) age

-- the wire is one that is answered
abbrev pub Listens : {W E : Type 0} → (Result W E → Type 0) → (W → WireState) → WireState → Type 0
Listens {W} {E} Answers state wire = (listening : W) × Answers (Ok listening) × (wire ≡ state listening)

-- whatever the system answers
abbrev pub AnyPath : {P : Type 0} → List ℕ → P → Type 0
AnyPath path there = Unit {0}

abbrev pub AnyList : Result SourceTexts SourceFile → Type 0
AnyList sources = Unit {0}

abbrev pub AnyWire : WireState → Type 0
AnyWire wire = Unit {0}

abbrev pub AnyAge : FileAge → Type 0
AnyAge age = Unit {0}

abbrev pub AnySecond : ℕ → Type 0
AnySecond second = Unit {0}

-- how old the system says that the file is
abbrev pub SystemAges : CacheSettings → FileAge → Type 0
SystemAges settings age = Ages (λ path told. Unit {0}) settings age
