-- A slot's place at a prefix.
use Rattle.std.specs.Prelude.{ℕ, Option}
use Rattle.decision.specs.declared.candidate.Candidate.{Candidate}
use Rattle.live_book.specs.declared.place.Standing.{Standing}

-- the slot, its candidate, and how that stands
pub record Place : Type 0 where
  pub slot : ℕ
  pub candidate : Option Candidate
  pub standing : Standing
