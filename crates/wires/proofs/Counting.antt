-- What loops count, one step after another: the connections lost are those of the wire's faults, of its ends of input and of the loop's closes.
use Rattle.std.proofs.Common.{◌≡◌, ◌<◌, ◌≤◌, ◌+◌, ◌-◌, ◌^◌, ℕ, refl, sym, ◌∙◌, subst, arith}
use Rattle.wires.specs.Counts.{AreBelowGreatest, Counts, LosesNoMore}
use Rattle.wires.specs.Wires.{one_more}

-- no count falls
pub record Rises (old new : Counts) : Type 0 where
  pub lost : old.lost ≤ new.lost
  pub closed : old.closed ≤ new.closed
  pub faults : old.wire.faults ≤ new.wire.faults
  pub ends : old.wire.ends ≤ new.wire.ends

-- what a loop lost beyond its start is what faults, ends and closes rose together
pub record LosesAsCounted (old new : Counts) : Type 0 where
  pub rises : Rises old new
  pub lost : AreBelowGreatest new → new.lost + (old.wire.faults + old.wire.ends + old.closed) ≡ old.lost + (new.wire.faults + new.wire.ends + new.closed)

-- nothing is lost where these counts stay
pub loses_nothing : (old new : Counts) → new.lost ≡ old.lost → new.closed ≡ old.closed → new.wire.faults ≡ old.wire.faults → new.wire.ends ≡ old.wire.ends → LosesAsCounted old new
loses_nothing old new lost closed faults ends =
    record {
      rises = record { lost = omega (arith, lost); closed = omega (arith, closed); faults = omega (arith, faults); ends = omega (arith, ends) };
      lost = λ _. omega (arith, lost, closed, faults, ends);
    }

pub loses_none : (counts : Counts) → LosesAsCounted counts counts
loses_none counts = loses_nothing counts counts refl refl refl refl

-- a count that is below the greatest was so before
pub below_rises : (old new : Counts) → Rises old new → AreBelowGreatest new → AreBelowGreatest old
below_rises old new rises below =
    record {
      lost = omega (arith, rises.lost, below.lost);
      closed = omega (arith, rises.closed, below.closed);
      faults = omega (arith, rises.faults, below.faults);
      ends = omega (arith, rises.ends, below.ends);
    }

pub rises_both : (old mid new : Counts) → Rises old mid → Rises mid new → Rises old new
rises_both old mid new first second =
    record {
      lost = omega (arith, first.lost, second.lost);
      closed = omega (arith, first.closed, second.closed);
      faults = omega (arith, first.faults, second.faults);
      ends = omega (arith, first.ends, second.ends);
    }

-- what one visit loses and what the next ones lose add up
pub loses_both : (old mid new : Counts) → LosesAsCounted old mid → LosesAsCounted mid new → LosesAsCounted old new
loses_both old mid new first second =
    record {
      rises = rises_both old mid new first.rises second.rises;
      lost = λ below. omega (arith, first.lost (below_rises mid new second.rises below), second.lost below);
    }

-- a count that goes on
pub goes_on : (count : ℕ) → count ≤ one_more count
goes_on count = grind arith

pub goes_on_by_one : (count : ℕ) → one_more count < 2 ^ 64 - 1 → one_more count ≡ count + 1
goes_on_by_one count below = grind arith

pub counted_as : (old mid new : Counts) → new ≡ mid → LosesAsCounted old mid → LosesAsCounted old new
counted_as old mid new same loses = subst (λ (c : Counts). LosesAsCounted old c) (sym same) loses

pub no_more : (old new : Counts) → LosesAsCounted old new → LosesNoMore old new
no_more old new loses = λ below. omega (arith, loses.lost below)

-- a fault of the wire behind which the loss of a connection is told
pub loses_by_fault : (old new : Counts) → new.lost ≡ one_more old.lost → new.closed ≡ old.closed → new.wire.faults ≡ one_more old.wire.faults → new.wire.ends ≡ old.wire.ends → LosesAsCounted old new
loses_by_fault old new lost closed faults ends =
    record {
      rises = record { lost = subst (λ (n : ℕ). old.lost ≤ n) (sym lost) (goes_on old.lost); closed = omega (arith, closed); faults = subst (λ (n : ℕ). old.wire.faults ≤ n) (sym faults) (goes_on old.wire.faults); ends = omega (arith, ends) };
      lost = λ below. omega (arith, lost ∙ goes_on_by_one old.lost (subst (λ (n : ℕ). n < 2 ^ 64 - 1) lost below.lost), faults ∙ goes_on_by_one old.wire.faults (subst (λ (n : ℕ). n < 2 ^ 64 - 1) faults below.faults), closed, ends);
    }

-- an end of input
pub loses_by_end : (old new : Counts) → new.lost ≡ one_more old.lost → new.closed ≡ old.closed → new.wire.faults ≡ old.wire.faults → new.wire.ends ≡ one_more old.wire.ends → LosesAsCounted old new
loses_by_end old new lost closed faults ends =
    record {
      rises = record { lost = subst (λ (n : ℕ). old.lost ≤ n) (sym lost) (goes_on old.lost); closed = omega (arith, closed); faults = omega (arith, faults); ends = subst (λ (n : ℕ). old.wire.ends ≤ n) (sym ends) (goes_on old.wire.ends) };
      lost = λ below. omega (arith, lost ∙ goes_on_by_one old.lost (subst (λ (n : ℕ). n < 2 ^ 64 - 1) lost below.lost), ends ∙ goes_on_by_one old.wire.ends (subst (λ (n : ℕ). n < 2 ^ 64 - 1) ends below.ends), closed, faults);
    }

-- a connection that is closed on this side
pub loses_by_close : (old new : Counts) → new.lost ≡ one_more old.lost → new.closed ≡ one_more old.closed → new.wire.faults ≡ old.wire.faults → new.wire.ends ≡ old.wire.ends → LosesAsCounted old new
loses_by_close old new lost closed faults ends =
    record {
      rises = record { lost = subst (λ (n : ℕ). old.lost ≤ n) (sym lost) (goes_on old.lost); closed = subst (λ (n : ℕ). old.closed ≤ n) (sym closed) (goes_on old.closed); faults = omega (arith, faults); ends = omega (arith, ends) };
      lost = λ below. omega (arith, lost ∙ goes_on_by_one old.lost (subst (λ (n : ℕ). n < 2 ^ 64 - 1) lost below.lost), closed ∙ goes_on_by_one old.closed (subst (λ (n : ℕ). n < 2 ^ 64 - 1) closed below.closed), faults, ends);
    }
