-- Files that are opened at their paths, as the system's.
use Rattle.std.proofs.Common.{◌≡◌, ℕ, List, Option, Some, None, Result, Ok, Err, MatchResult, option_map, string_bytes}
use Rattle.file_paths.specs.OpenedFiles.{OpenedFile}
use Rattle.file_paths.specs.declared.steady.Stamp.{Stamp}
use Rattle.payload_sources.specs.OpenedSources.{Gives, Opens, OpensBehind, OpensThen, Seen, opened}
use Rattle.payload_sources.specs.PayloadSources.{SourceTexts}
use Rattle.payload_sources.specs.declared.fault.SourceFile.{SourceFile}
use Rattle.cache_settings.specs.declared.settings.CacheSettings.{CacheSettings}
use Rattle.cache_settings.specs.declared.settings.Stale.{Stale}
use Rattle.cache_settings.specs.declared.settings.Stale.TheVariants.{Serve, Withdraw}
use Rattle.cache_watch.specs.declared.telling.FileAge.{FileAge}
use Rattle.cache_program.specs.Opened.{AgesBy, Gives as GivesFiles, IsOpenedAt, SystemGives, expiring_at}

abbrev text_of : OpenedFile → Option (List ℕ)
text_of file = file.text

abbrev stamp_of : OpenedFile → Option Stamp
stamp_of file = file.stamp

module _ {E : Type 0} (Answers : List ℕ → Result OpenedFile E → Type 0) (there : (path : List ℕ) (file : OpenedFile) → Answers path (Ok file) → file.path ≡ path) where
  given_so : (path : List ℕ) (list : Option Seen) → Gives (Answers path) text_of stamp_of list → Gives (IsOpenedAt path) text_of stamp_of list
  given_so path list gives = by_file gives.0 gives.1 gives.2
    where
      by_file : (file : Result OpenedFile E) → Answers path file → list ≡ opened text_of stamp_of file → Gives (IsOpenedAt path) text_of stamp_of list
      by_file (Ok file) answers is = (Ok file, there path file answers, is)
      by_file (Err why) answers is = (Err tt, tt, is)

  behind_so : (second : Option ℕ) (slurm : Option (List ℕ)) (list : Seen) (sources : Result SourceTexts SourceFile) → OpensBehind Answers text_of stamp_of second slurm list sources → OpensBehind IsOpenedAt text_of stamp_of second slurm list sources
  behind_so second None list sources is = is
  behind_so second (Some path) list sources opens = (opens.0, given_so path opens.0 opens.1, opens.2)

  then_so : (second : Option ℕ) (slurm : Option (List ℕ)) (list : Option Seen) (sources : Result SourceTexts SourceFile) → OpensThen Answers text_of stamp_of second slurm list sources → OpensThen IsOpenedAt text_of stamp_of second slurm list sources
  then_so second slurm None sources is = is
  then_so second slurm (Some list) sources opens = behind_so second slurm list sources opens

  opens_so : (second : Option ℕ) (csv : List ℕ) (slurm : Option (List ℕ)) (sources : Result SourceTexts SourceFile) → Opens Answers text_of stamp_of second csv slurm sources → Opens IsOpenedAt text_of stamp_of second csv slurm sources
  opens_so second csv slurm sources opens = (opens.0, given_so csv opens.0 opens.1, then_so second slurm opens.0 sources opens.2)

-- so are files that a call of a closure opens, if it opens each where it is asked to
pub opens_as : {E : Type 0} (Answers : List ℕ → Result OpenedFile E → Type 0) (settings : CacheSettings) (sources : Result SourceTexts SourceFile) → GivesFiles Answers text_of stamp_of settings sources
    → ((path : List ℕ) (file : OpenedFile) → Answers path (Ok file) → file.path ≡ path) → SystemGives settings sources
opens_as Answers settings sources (second, opens) there = (second, opens_so Answers there (expiring_at settings second) (string_bytes settings.csv) (option_map string_bytes settings.slurm) sources opens)

-- files that are opened to be read at a second are read at some second
pub at_second : {L E S U : Type 0} (Answers : List ℕ → Result L E → Type 0) (remaining : L → Option (List ℕ)) (stamp : L → Option Stamp) (settings : CacheSettings) (second : ℕ) (r : Result S U) (texts : S → SourceTexts) (which : U → SourceFile)
    → MatchResult r (λ s. Opens Answers remaining stamp (expiring_at settings second) (string_bytes settings.csv) (option_map string_bytes settings.slurm) (Ok (texts s))) (λ u. Opens Answers remaining stamp (expiring_at settings second) (string_bytes settings.csv) (option_map string_bytes settings.slurm) (Err (which u)))
    → MatchResult r (λ s. GivesFiles Answers remaining stamp settings (Ok (texts s))) (λ u. GivesFiles Answers remaining stamp settings (Err (which u)))
at_second Answers remaining stamp settings second (Ok s) texts which h = (second, h)
at_second Answers remaining stamp settings second (Err u) texts which h = (second, h)

-- a file is as old as the system says, whatever it says
pub ages_as : (Answered : FileAge → Type 0) (stale : Stale) (age : FileAge) → AgesBy stale Answered age → AgesBy stale (λ told. Unit {0}) age
ages_as Answered Serve age is = is
ages_as Answered Withdraw age is = tt
