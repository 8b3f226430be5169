-- Visits to places, one after another.
use Rattle.std.proofs.Common.{◌≡◌, ℕ, Bool, true, false, List, Option, nat_lt}
use Rattle.control_lines.specs.declared.operator.Operator.{Operator}
use Rattle.control_sockets.specs.Places.{IsVisited, place_at}

-- who is at a place was visited, or not yet
abbrev pub IsVisitedIf : {S : Type 0} → Bool → ℕ → Option (Operator S) → Option (Operator S) → Type 0
IsVisitedIf true now old new = IsVisited now old new
IsVisitedIf false now old new = new ≡ old

-- at the places below this one all were, and at the others nobody
abbrev pub AreVisitedBelow : {S : Type 0} → ℕ → ℕ → List (Option (Operator S)) → List (Option (Operator S)) → Type 0
AreVisitedBelow index now old new = (key : ℕ) → IsVisitedIf (nat_lt key index) now (place_at old key) (place_at new key)
