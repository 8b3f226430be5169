-- A book whose candidates have their slots for addresses.
use Rattle.std.specs.Prelude.{ℕ, ◌≡◌, Option, IfSome}
use Rattle.decision.specs.BookContents.{Kept, candidate_of}
use Rattle.decision.specs.KeptPlaces.{IsKept}
use Rattle.decision.specs.declared.book.Change.{Change}
use Rattle.decision.specs.declared.candidate.Candidate.{Candidate}

-- each slot's candidate has the slot for an address
abbrev pub AreAddressed : (ℕ → Option Candidate) → Type 0
AreAddressed offers = (s : ℕ) → IfSome (offers s) (λ c. c.address ≡ s)

-- the best is kept beside the places, and the candidates there are addressed so
pub record IsSound (book : Kept) : Type 0 where
  pub kept : IsKept book
  pub addressed : AreAddressed (candidate_of book.places)

-- a change's candidate is its slot's, and has the slot for an address
abbrev pub IsOwn : Change → Type 0
IsOwn change = IfSome change.candidate (λ c. (c.slot ≡ change.slot) × (c.address ≡ change.slot))
