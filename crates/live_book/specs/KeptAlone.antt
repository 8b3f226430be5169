-- What a book keeps of a prefix, where a place may stand in the book itself.
use Rattle.std.specs.Prelude.{ℕ, Option, Some, None, [], ◌∷◌}
use Rattle.decision.specs.BookContents.{Kept}
use Rattle.decision.specs.WithoutMed.{with_med}
use Rattle.decision.specs.declared.candidate.Candidate.{Candidate}
use Rattle.live_book.specs.declared.live.Places.{Places}
use Rattle.live_book.specs.declared.live.Places.TheVariants.{Nobody, Vacant, Alone, AloneWithMed, Many}

-- one slot has a place, and its candidate is the best one
abbrev pub one_place : ℕ → Option Candidate → Kept
one_place slot candidate = record { places = (slot, candidate) ∷ []; best = candidate }

abbrev pub kept_in : {A : Type 0} → Places A → Kept
kept_in Nobody = record { places = []; best = None }
kept_in (Vacant slot) = one_place slot None
kept_in (Alone rest) = one_place (with_med rest None).slot (Some (with_med rest None))
kept_in (AloneWithMed med rest) = one_place (with_med rest (Some med)).slot (Some (with_med rest (Some med)))
kept_in (Many many) = many
