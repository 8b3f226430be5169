-- What a run counts (own).
use Rattle.std.specs.Prelude.{◌+◌, ◌^◌, ◌-◌, ℕ, min, Option, None, Some}
use Rattle.cache_figures.specs.declared.figures.RunFigures.{RunFigures}
use Rattle.cache_figures.specs.declared.figures.Outcome.{Outcome}
use Rattle.cache_figures.specs.declared.figures.Outcome.TheVariants.{Taken, Same, Unchanged, Refused}

abbrev pub none_counted : ℕ → RunFigures
none_counted session = record { session = session; turns = 0; taken = 0; same = 0; unchanged = 0; refused = 0 }

-- one more, up to the greatest u64
abbrev pub one_more : ℕ → ℕ
one_more count = min (count + 1) (2 ^ 64 - 1)

-- a turn, and what reading the list again has led to before it
abbrev pub counting : Option Outcome → RunFigures → RunFigures
counting None run = record run { turns = one_more run.turns }
counting (Some Taken) run = record run { turns = one_more run.turns; taken = one_more run.taken }
counting (Some Same) run = record run { turns = one_more run.turns; same = one_more run.same }
counting (Some Unchanged) run = record run { turns = one_more run.turns; unchanged = one_more run.unchanged }
counting (Some Refused) run = record run { turns = one_more run.turns; refused = one_more run.refused }
