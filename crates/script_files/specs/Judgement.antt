-- Whether a player answers what is told.
use Rattle.std.specs.Prelude.{◌≡◌, ◌<◌, ◌≤◌, ◌+◌, ◌-◌, ◌^◌, ℕ, zero, suc, nat_lt, max, List, Option, Some, IfNone, IfSome, if◌then◌else◌}
use Rattle.script_files.specs.Cases.{case_in, cases_in}
use Rattle.script_files.specs.Comparison.{difference_of, line_in}
use Rattle.script_files.specs.Cuts.{plays_of, script_cut}
use Rattle.script_files.specs.declared.judging.Difference.{Difference}
use Rattle.script_files.specs.declared.judging.Outcome.{Outcome}
use Rattle.script_files.specs.declared.judging.Outcome.TheVariants.{AsTold, Differs}

-- what may be answered to a script
abbrev pub Answers : Type 1
Answers = List ℕ → List ℕ → Type 0

-- at each of its places up to this one, without it, the case was answered just what is told
abbrev pub IsAnsweredBelow : Answers → List ℕ → List ℕ → ℕ → Type 0
IsAnsweredBelow answers script told end = (place : ℕ) → 1 ≤ place → place < end → answers (script_cut place script) told

-- at each of its places it was
abbrev pub IsAnswered : Answers → List ℕ → List ℕ → Type 0
IsAnswered answers script told = IsAnsweredBelow answers script told (plays_of script + 1)

-- the case was first answered otherwise at the place that the difference names: there the first line that differs from what
-- is told is the one that it names, and it has that line of both
pub record IsFirstOf (answers : Answers) (script told : List ℕ) (difference : Difference) : Type 0 where
  pub from : 1 ≤ difference.place
  pub within : difference.place ≤ plays_of script
  pub before : IsAnsweredBelow answers script told difference.place
  pub found : (found : List ℕ) × answers (script_cut difference.place script) found
      × (difference_of found told ≡ Some difference.line)
      × (difference.answered.items ≡ line_in difference.line found)
  pub told_line : difference.told.items ≡ line_in difference.line told

-- the case was answered as told at each place, or differs first so
abbrev pub IsJudged : Answers → ℕ → List ℕ → List ℕ → Option Difference → Type 0
IsJudged answers case script told found =
    IfNone found (IsAnswered answers script told) × IfSome found (λ difference. (difference.case ≡ case) × IsFirstOf answers script told difference)

-- how many cases a file has with what is told of it
abbrev pub cases_of : List ℕ → List ℕ → ℕ
cases_of script told = max (cases_in script) (cases_in told)

-- each case up to this one, without it, was answered just what is told
abbrev pub AreAnsweredBelow : Answers → List ℕ → List ℕ → ℕ → Type 0
AreAnsweredBelow answers script told end =
    (case : ℕ) → 1 ≤ case → case < end → IsAnswered answers (case_in case script) (case_in case told)

-- each case of a file was answered just what is told of it
abbrev pub AreAnswered : Answers → List ℕ → List ℕ → Type 0
AreAnswered answers script told = AreAnsweredBelow answers script told (cases_of script told + 1)

-- the two together, up to the greatest number of 64 bits
abbrev pub added : ℕ → ℕ → ℕ
added a b = if nat_lt (a + b) (2 ^ 64) then a + b else 2 ^ 64 - 1

-- how often the first cases are played
abbrev pub plays_up_to : ℕ → List ℕ → ℕ
plays_up_to zero script = 0
plays_up_to (suc case) script = added (plays_up_to case script) (plays_of (case_in (suc case) script))

-- the first case that was answered otherwise is the one that the difference names
pub record IsFirstAmong (answers : Answers) (script told : List ℕ) (difference : Difference) : Type 0 where
  pub from : 1 ≤ difference.case
  pub within : difference.case ≤ cases_of script told
  pub before : AreAnsweredBelow answers script told difference.case
  pub first : IsFirstOf answers (case_in difference.case script) (case_in difference.case told) difference

-- what came of a file
abbrev pub IsOutcome : Answers → List ℕ → List ℕ → Outcome → Type 0
IsOutcome answers script told (AsTold plays) =
    AreAnswered answers script told × (plays ≡ plays_up_to (cases_of script told) script)
IsOutcome answers script told (Differs difference) = IsFirstAmong answers script told difference
