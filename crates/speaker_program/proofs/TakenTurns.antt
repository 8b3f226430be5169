-- One more turn.
use Rattle.std.proofs.Common.{◌≡◌, ◌<◌, ◌⊎◌, ◌+◌, ◌++◌, ℕ, List, [], ◌∷◌, Result, Ok, Err, inl, inr, length-append, refl, sym, ap, ◌∙◌, subst, arith}
use Rattle.clocks.proofs.ToldMoments.{told_one_more}
use Rattle.clocks.specs.Moments.{IsNotBefore, NeverGoBack, told_behind}
use Rattle.speaker_turns.specs.Turns.{TakesTurn, TakesTurns, Turns}
use Rattle.wires.specs.declared.fault.LoopFault.{LoopFault}
use Rattle.wires.specs.declared.fault.LoopFault.TheVariants.{Accept}
use Rattle.std.specs.Result.{IsErrAnd}
use Rattle.speaker_program.specs.Commanded.{StopsBehind, TakeWell, TakesAll, TakesSoMany}

well_more : (moments : List ℕ) (now : ℕ) (old mid new : Turns) → TakeWell moments old mid → TakesTurn now mid (Ok tt) new → TakeWell (moments ++ now ∷ []) old new
well_more [] now old mid new same takes = (new, subst (λ s. TakesTurn now s (Ok tt) new) same takes, refl)
well_more (moment ∷ moments) now old mid new taken takes = (taken.0, taken.1, well_more moments now taken.0 mid new taken.2 takes)

-- turns that go well are turns
pub well_are_turns : (moments : List ℕ) (old new : Turns) → TakeWell moments old new → TakesTurns moments old new
well_are_turns [] old new same = same
well_are_turns (now ∷ moments) old new taken = (taken.0, Ok tt, taken.1, well_are_turns moments taken.0 new taken.2)

-- and so are those behind which one couldn't accept
pub stopped_are_turns : (moments : List ℕ) (now : ℕ) (old new : Turns) → StopsBehind moments now old new → TakesTurns (moments ++ now ∷ []) old new
stopped_are_turns moments now old new stops = behind moments old stops.mid (well_are_turns moments old stops.mid stops.well) stops.stops
  where
    behind : (moments : List ℕ) (old mid : Turns) → TakesTurns moments old mid → TakesTurn now mid (Err Accept) new → TakesTurns (moments ++ now ∷ []) old new
    behind [] old mid same takes = (new, Err Accept, subst (λ s. TakesTurn now s (Err Accept) new) same takes, refl)
    behind (moment ∷ moments) old mid taken takes = (taken.0, taken.1, taken.2, behind moments taken.0 mid taken.3 takes)

pub none_taken : (before : List ℕ) (s : Turns) → TakesAll 0 before before s s
none_taken before s = record { moments = []; taken = refl; told = refl; forward = λ all. all; counted = refl }

pub one_more : (count now : ℕ) (before mid behind : List ℕ) (old between new : Turns) → TakesAll count before mid old between
    → behind ≡ now ∷ mid → IsNotBefore now mid → TakesTurn now between (Ok tt) new → TakesAll (count + 1) before behind old new
one_more count now before mid behind old between new so_far reads later takes =
    let counted = so_far.counted in
    record {
      moments = so_far.moments ++ now ∷ [];
      taken = well_more so_far.moments now old between new so_far.taken takes;
      told = reads ∙ ap (λ moments. now ∷ moments) so_far.told ∙ sym (told_one_more so_far.moments now before);
      forward = λ all. subst (λ moments. NeverGoBack moments) (sym reads) (later, so_far.forward all);
      counted = omega (arith, length-append so_far.moments (now ∷ []), counted);
    }

-- the clock fails behind so many turns
pub clock_fails : {E : Type 0} (P : E → Type 0) (count turns : ℕ) (result : Result (Unit {0}) E) (before mid behind : List ℕ) (old new : Turns) → IsErrAnd result P → count < turns → behind ≡ mid → TakesAll count before mid old new → TakesSoMany turns result before behind old new
clock_fails P count turns (Ok done) before mid behind old new is fewer same taken = absurd is
clock_fails P count turns (Err fault) before mid behind old new is fewer same taken =
    let counted = taken.counted in
    record {
      moments = taken.moments;
      fewer = omega (arith, counted, fewer);
      ends = inl (same ∙ taken.told, taken.taken);
      forward = λ all. subst (λ moments. NeverGoBack moments) (sym same) (taken.forward all);
    }

-- one more can't accept
pub turn_fails : {E : Type 0} (P : E → Type 0) (count turns now : ℕ) (why : LoopFault) (result : Result (Unit {0}) E) (before mid behind : List ℕ) (old between new : Turns) → IsErrAnd result P → count < turns → behind ≡ now ∷ mid → IsNotBefore now mid → TakesAll count before mid old between → TakesTurn now between (Err why) new → TakesSoMany turns result before behind old new
turn_fails P count turns now Accept (Ok done) before mid behind old between new is fewer reads later taken takes = absurd is
turn_fails P count turns now Accept (Err fault) before mid behind old between new is fewer reads later taken takes =
    let counted = taken.counted in
    record {
      moments = taken.moments;
      fewer = omega (arith, counted, fewer);
      ends = inr (now, reads ∙ ap (λ moments. now ∷ moments) taken.told, record { mid = between; well = taken.taken; stops = takes });
      forward = λ all. subst (λ moments. NeverGoBack moments) (sym reads) (later, taken.forward all);
    }

-- however they end, they are turns of the loop
pub taken_are_turns : {E : Type 0} (count : ℕ) (result : Result (Unit {0}) E) (before behind : List ℕ) (old new : Turns) → TakesSoMany count result before behind old new → (moments : List ℕ) × TakesTurns moments old new
taken_are_turns count (Ok done) before behind old new taken = (taken.moments, well_are_turns taken.moments old new taken.taken)
taken_are_turns count (Err fault) before behind old new taken = by_end taken.ends
  where
    by_end : ((behind ≡ told_behind taken.moments before) × TakeWell taken.moments old new) ⊎ ((now : ℕ) × (behind ≡ now ∷ told_behind taken.moments before) × StopsBehind taken.moments now old new) → (moments : List ℕ) × TakesTurns moments old new
    by_end (inl fails) = (taken.moments, well_are_turns taken.moments old new fails.1)
    by_end (inr stops) = (taken.moments ++ stops.0 ∷ [], stopped_are_turns taken.moments stops.0 old new stops.2)
