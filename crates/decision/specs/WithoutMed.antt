-- A candidate apart from its MULTI_EXIT_DISC.
use Rattle.std.specs.Prelude.{ℕ, Option}
use Rattle.decision.specs.declared.candidate.Candidate.{Candidate}
use Rattle.decision.specs.declared.without_med.WithoutMed.{WithoutMed}

-- the candidate with this MULTI_EXIT_DISC
abbrev pub with_med : WithoutMed → Option ℕ → Candidate
with_med c med = record { degree = c.degree; path_length = c.path_length; neighbor = c.neighbor; cost = c.cost; identifier = c.identifier; address = c.address; med = med; slot = c.slot; origin = c.origin; external = c.external; validity = c.validity }
