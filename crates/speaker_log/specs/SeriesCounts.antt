-- Failures of one side that are alike (own): the first is told, and the others are counted.
use Rattle.std.specs.Prelude.{◌≡◌, ◌+◌, ◌-◌, ◌^◌, ℕ, min, Some}
use Rattle.speaker_log.specs.declared.failure.Failure.{Failure}
use Rattle.speaker_log.specs.declared.series.Met.{Met}
use Rattle.speaker_log.specs.declared.series.Met.TheVariants.{Alike, Other}
use Rattle.speaker_log.specs.declared.series.Series.{Series}

-- how many there were that weren't told
abbrev pub more_of : Series → ℕ
more_of series = series.more

-- one that is like the one before is counted, up to the greatest u64; another begins a series, and what was counted is handed out
abbrev pub Meets : Failure → Series → Met → Series → Type 0
Meets failure old Alike new = (old.last ≡ Some failure) × (new ≡ record old { more = min (old.more + 1) (2 ^ 64 - 1) })
Meets failure old (Other more) new = (more ≡ old.more) × (new ≡ record { last = Some failure; more = 0 })
