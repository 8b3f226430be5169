-- What is asked for before turns.
use Rattle.std.proofs.Common.{◌≡◌, ◌++◌, ◌+◌, ℕ, zero, suc, Bool, true, false, List, [], ◌∷◌, Result, Ok, inr, codes, refl, subst, arith}
use Rattle.bgp_conf.specs.declared.command.Command.TheVariants.{Disable}
use Rattle.bgp_conf.specs.declared.refusal.Refusal.{Refusal}
use Rattle.runs.specs.declared.event.Report.{Report}
use Rattle.speaker_desk.specs.Moves.{TakesMoves}
use Rattle.speaker_desk.specs.Moves.Move.{Obeyed}
use Rattle.speaker_turns.specs.Obeying.{Obeys}
use Rattle.speaker_turns.specs.Turns.{Turns}
use Rattle.speaker_program.specs.HeldBack.{AreHeldBack, HeldBelow, HoldsBack, is_started}

-- it is asked for among them
disabled_before : {E : Type 0} (started : Bool) (slot : ℕ) (noted slots : List ℕ) (count : ℕ) (before behind : List ℕ) (old mid new : Turns) → HoldsBack started slot noted slots old mid
    → TakesMoves {E = E} count (Ok tt) before behind mid new → TakesMoves {E = E} count (Ok tt) before behind old new
disabled_before {E} false slot noted slots count before behind old mid new holds takes = subst (λ (t : Turns). TakesMoves {E = E} count (Ok tt) before behind t new) holds.1 takes
disabled_before true slot noted slots count before behind old mid new holds takes =
    record {
      moves = Obeyed (codes "stop") (Disable slot) ∷ takes.moves;
      made = (mid, (inr (inr (refl, slot, refl)), holds.1.0, holds.1.1), takes.made);
      told = takes.told;
      forward = takes.forward;
      few = takes.few;
      well = (tt, takes.well);
    }

held_before : {E : Type 0} (slots_below : ℕ) (slots : List ℕ) (count : ℕ) (before behind : List ℕ) (old mid new : Turns) → HeldBelow slots_below slots old mid
    → TakesMoves {E = E} count (Ok tt) before behind mid new → TakesMoves {E = E} count (Ok tt) before behind old new
held_before {E} zero slots count before behind old mid new held takes = subst (λ (t : Turns). TakesMoves {E = E} count (Ok tt) before behind t new) held.1 takes
held_before (suc slot) slots count before behind old mid new held takes =
    held_before slot held.0 count before behind old held.1 new held.2 (disabled_before (is_started (held.1).speaker slot) slot held.0 slots count before behind held.1 mid new held.3 takes)

pub asked_before : {E : Type 0} (wait : Bool) (slots : List ℕ) (count : ℕ) (before behind : List ℕ) (old mid new : Turns) → AreHeldBack wait slots old mid
    → TakesMoves {E = E} count (Ok tt) before behind mid new → TakesMoves {E = E} count (Ok tt) before behind old new
asked_before {E} false slots count before behind old mid new held takes = subst (λ (t : Turns). TakesMoves {E = E} count (Ok tt) before behind t new) held.1 takes
asked_before true slots count before behind old mid new held takes = held_before 64 slots count before behind old mid new held takes

-- ---- how peers are held back

pub holds_none : (started : Bool) (slot : ℕ) (noted : List ℕ) (old : Turns) → started ≡ false → HoldsBack started slot noted noted old old
holds_none true slot noted old wrong = absurd cc
holds_none false slot noted old is = (refl, refl)

pub holds_one : (started : Bool) (slot : ℕ) (noted slots : List ℕ) (result : Result Report Refusal) (old new : Turns) → started ≡ true → slots ≡ noted ++ slot ∷ [] → Obeys (Disable slot) old result new → HoldsBack started slot noted slots old new
holds_one true slot noted slots result old new is more obeys = (more, (result, obeys))
holds_one false slot noted slots result old new wrong more obeys = absurd cc

pub held_first : (slots : List ℕ) (old : Turns) → slots ≡ [] → HeldBelow 0 slots old old
held_first slots old none = (none, refl)

pub held_more : (slot : ℕ) (noted slots : List ℕ) (old mid new : Turns) → HeldBelow slot noted old mid → HoldsBack (is_started mid.speaker slot) slot noted slots mid new → HeldBelow (slot + 1) slots old new
held_more slot noted slots old mid new below holds = subst (λ (n : ℕ). HeldBelow n slots old new) one (held_suc slot noted slots old mid new below holds)
  where
    one : suc slot ≡ slot + 1
    one = omega arith

    held_suc : (slot : ℕ) (noted slots : List ℕ) (old mid new : Turns) → HeldBelow slot noted old mid → HoldsBack (is_started mid.speaker slot) slot noted slots mid new → HeldBelow (suc slot) slots old new
    held_suc slot noted slots old mid new below holds = (noted, mid, below, holds)

pub held_all : (count : ℕ) (slots : List ℕ) (old new : Turns) → count ≡ 64 → HeldBelow count slots old new → HeldBelow 64 slots old new
held_all count slots old new all below = subst (λ (n : ℕ). HeldBelow n slots old new) all below
