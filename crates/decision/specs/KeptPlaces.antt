-- The places of a prefix, as books keep them.
use Rattle.std.specs.Prelude.{ℕ, ◌≡◌, ◌≢◌, ◌≤◌, not, nat_eq, Option, Some, None, List, [], length, map, filter, filter_map, All, MatchOption, ◌∷◌, if◌then◌else◌}
use Rattle.std.specs.List.{IsDistinct}
use Rattle.std.specs.List.Sorted.{IsStrictlySortedBy}
use Rattle.std.specs.Map.{keys_of, values_of}
use Rattle.decision.specs.BookContents.{AreApart, changed, is_prefix, Kept, candidate_of, kept_at}
use Rattle.decision.specs.Selection.{IsSelected}
use Rattle.decision.specs.declared.book.Change.{Change}
use Rattle.decision.specs.declared.candidate.Candidate.{Candidate}
use Rattle.net_prefix.specs.PrefixOrder.{prefix_cmp}
use Rattle.net_prefix.specs.declared.prefix.Prefix.{Prefix}

-- the candidates of all slots
abbrev pub candidates_of : List (ℕ × Option Candidate) → List Candidate
candidates_of places = filter_map (λ place. place.1) places

-- the places after these changes
abbrev pub with_changes : List Change → List (ℕ × Option Candidate) → List (ℕ × Option Candidate)
with_changes changes places = map (λ place. (place.0, changed changes place.0 place.1)) places

-- the places of the other slots
abbrev pub without_slot : ℕ → List (ℕ × Option Candidate) → List (ℕ × Option Candidate)
without_slot slot places = filter (λ place. not (nat_eq slot place.0)) places

-- a slot has one place, the candidate there is the slot's, no two candidates agree in rank, and there are not too many
pub record ArePlaces (places : List (ℕ × Option Candidate)) : Type 0 where
  pub few : length places ≤ 65
  pub distinct : IsDistinct nat_eq (keys_of places)
  pub own : (s : ℕ) (c : Candidate) → candidate_of places s ≡ Some c → c.slot ≡ s
  pub apart : AreApart (candidate_of places)

-- the candidate is what the selection leaves of those at the places
abbrev pub IsBestAt : List (ℕ × Option Candidate) → Option Candidate → Type 0
IsBestAt places best = MatchOption best (candidates_of places ≡ []) (λ c. IsSelected (candidates_of places) c)

-- the best of the places is kept beside them
abbrev pub IsKept : Kept → Type 0
IsKept kept = ArePlaces kept.places × IsBestAt kept.places kept.best

-- the same, and there is a place
abbrev pub IsNeeded : Kept → Type 0
IsNeeded kept = IsKept kept × (kept.places ≢ [])

-- what is kept of the prefixes, which rise, and of which each has a place
abbrev pub IsBook : List (Prefix × Kept) → Type 0
IsBook book = IsStrictlySortedBy prefix_cmp (keys_of book) × All IsNeeded (values_of book)

-- a slot without a candidate alone
abbrev pub alone : ℕ → Kept
alone slot = record { places = (slot, None) ∷ []; best = None }

-- this is kept of the prefix now, and of each other one what was
abbrev pub Puts : List (Prefix × Kept) → List (Prefix × Kept) → Prefix → Option Kept → Type 0
Puts old new p kept = (q : Prefix) → kept_at new q ≡ (if is_prefix p q then kept else kept_at old q)
