-- How a place is laid out: it has its candidate, or none.
use Rattle.std.specs.Prelude.{ℕ, ◌≡◌, Option, Some, None}
use Rattle.std.proofs.Common.{refl}
use Rattle.decision.specs.declared.candidate.Candidate.{Candidate}
use Rattle.live_book.specs.Places.{Place}
use Rattle.live_book.specs.declared.place.Standing.{Standing}
use Rattle.live_book.specs.declared.place.State.{State}
use Rattle.live_book.specs.declared.place.State.TheVariants.{Vacant, Taken}

abbrev pub shown : State → Place
shown (Vacant slot standing) = record { slot = slot; candidate = None; standing = standing }
shown (Taken slot standing c) = record { slot = slot; candidate = Some c; standing = standing }

abbrev pub state_with : ℕ → Standing → Option Candidate → State
state_with slot standing None = Vacant slot standing
state_with slot standing (Some c) = Taken slot standing c

abbrev pub state_of : Place → State
state_of p = state_with p.slot p.standing p.candidate

-- nothing is lost
pub same_state : {X : Type 0} (f : State → X) (s : State) → f (state_of (shown s)) ≡ f s
same_state f (Vacant slot standing) = refl
same_state f (Taken slot standing c) = refl
