-- Files that were opened, one behind the other.
use Rattle.std.proofs.Common.{◌≡◌, ℕ, List, Option, None, Some, Result, Ok, Err, MatchResult, option_map, refl, sym, ap, subst}
use Rattle.file_paths.specs.declared.steady.Stamp.{Stamp}
use Rattle.payload_sources.specs.OpenedSources.{OpensBehind, Opens, opened, seen}
use Rattle.payload_sources.specs.PayloadSources.{SourceTexts, texts_of}
use Rattle.payload_sources.specs.declared.fault.SourceFile.{SourceFile}

module _ {L E : Type 0} (Answers : List ℕ → Result L E → Type 0) (remaining : L → Option (List ℕ)) (stamp : L → Option Stamp) (second : Option ℕ) where
  pub both : (slurm : Option (List ℕ)) (path : List ℕ) (list : L) (answer : Result L E) (file : L) → slurm ≡ Some path → Answers path answer → answer ≡ Ok file
      → OpensBehind Answers remaining stamp second slurm (seen remaining stamp list) (Ok (texts_of remaining stamp list (Some file) second))
  both slurm path list answer file is answers was =
      subst (λ (s : Option (List ℕ)). OpensBehind Answers remaining stamp second s (seen remaining stamp list) (Ok (texts_of remaining stamp list (Some file) second))) (sym is)
      (Some (seen remaining stamp file), (answer, answers, ap (opened remaining stamp) (sym was)), refl)

  pub behind : {X U : Type 0} (csv : List ℕ) (slurm : Option (List ℕ)) (answer : Result L E) (list : L) (r : Result X U) (texts : X → SourceTexts) (which : U → SourceFile) → Answers csv answer → answer ≡ Ok list
      → MatchResult r (λ s. OpensBehind Answers remaining stamp second slurm (seen remaining stamp list) (Ok (texts s))) (λ u. OpensBehind Answers remaining stamp second slurm (seen remaining stamp list) (Err (which u)))
      → MatchResult r (λ s. Opens Answers remaining stamp second csv slurm (Ok (texts s))) (λ u. Opens Answers remaining stamp second csv slurm (Err (which u)))
  behind csv slurm answer list (Ok s) texts which answers was h = (Some (seen remaining stamp list), (answer, answers, ap (opened remaining stamp) (sym was)), h)
  behind csv slurm answer list (Err u) texts which answers was h = (Some (seen remaining stamp list), (answer, answers, ap (opened remaining stamp) (sym was)), h)
