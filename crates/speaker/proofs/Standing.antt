use Rattle.std.proofs.Common.{◌≡◌, ◌≢◌, ◌≤◌, ◌<◌, ◌+◌, ◌==◌, ℕ, zero, suc, Bool, true, false, cond, refl, ap, ◌∙◌, inl, inr, arith, [], ◌∷◌, ◌^◌, Option, Some}
use Rattle.std.proofs.lemmas.Bool.{cases_eq, eq-eqb, ne_eqb}
use Rattle.runs.specs.Agreement.{QueuesAll, QueuesOn, QueuesStarved}
use Rattle.std.specs.Int.Bits.{bit_or}
use Rattle.bgp_fsm.specs.declared.input.Input.TheVariants.{NoMemory}
use Rattle.routing.specs.Linked.{Linked, moved}
use Rattle.speaker.specs.Moves.{Moves}
use Rattle.runs.specs.Queueing.{Starves}
use Rattle.speaker.specs.Serving.{IsShortAt, is_standing}
use Rattle.runs.specs.SpeakerState.{SpeakerState}
use Rattle.routing.specs.Tables.{link_at}

-- How many sessions stand: each want of memory at the end of a call leaves one fewer.

-- of so many slots from 0 on, those that stand
abbrev pub count_standing : (ℕ → Bool) → ℕ → ℕ
count_standing stands zero = 0
count_standing stands (suc n) = (cond (stands n) 1 0) + count_standing stands n

pub count_same : (f g : ℕ → Bool) → ((s : ℕ) → g s ≡ f s) → (n : ℕ) → count_standing g n ≡ count_standing f n
count_same f g same zero = refl
count_same f g same (suc n) = rw (same n, count_same f g same n) refl

count_below : (f g : ℕ → Bool) (slot : ℕ) → ((s : ℕ) → g s ≡ cond (s == slot) false (f s)) → (n : ℕ) → n ≤ slot → count_standing g n ≡ count_standing f n
count_below f g slot off zero under = refl
count_below f g slot off (suc n) under =
    let other : n ≢ slot = λ is. absurd (omega (arith, is, under)) in
    rw (off n, ne_eqb n slot other, count_below f g slot off n (omega (arith, under))) refl

-- one that stood doesn't any more, and all others are as they were
pub count_less : (f g : ℕ → Bool) (slot : ℕ) → f slot ≡ true → ((s : ℕ) → g s ≡ cond (s == slot) false (f s)) → (n : ℕ) → slot < n → count_standing g n < count_standing f n
count_less f g slot on off zero within = absurd (omega (arith, within))
count_less f g slot on off (suc n) within =
    elim (cases_eq n slot) [
      | inl same ↦ rw (off n, same, eq-eqb slot slot refl, on, count_below f g slot off slot (omega arith)) (omega arith)
      | inr other ↦
          let less = count_less f g slot on off n (omega (arith, within, other)) in
          rw (off n, ne_eqb n slot other) (omega (arith, less))
    ]

pub fewer : (a b c : ℕ) → b ≡ c → a < b → a < c
fewer a b c same less = omega (arith, same, less)

-- the queueing of a call
pub QueuesAll-none : (s : SpeakerState) → QueuesAll 0 s s
QueuesAll-none s config call r passes = ([], passes, refl)

pub QueuesAll-on : (starved : ℕ) (a b c : SpeakerState) → QueuesAll starved a b → QueuesOn b c → QueuesAll starved a c
QueuesAll-on starved a b c first later config call r passes =
    let mid = first config call r passes in
    let last = later config call r mid.0 mid.1 in (last.0, last.1, last.2 ∙ mid.2)

pub QueuesAll-starved : (starved bit more slot : ℕ) (a b c : SpeakerState) → bit ≡ 2 ^ slot → more ≡ bit_or bit starved → QueuesAll starved a b → QueuesStarved slot b c → QueuesAll more a c
QueuesAll-starved starved bit more slot a b c is sum first last config call r passes =
    let mid = first config call r passes in
    ((slot, Starves) ∷ mid.0, last config call r mid.0 mid.1, rw (sum, is, mid.2) refl)

-- a session to whose peer memory is refused stands
pub short_stands : (s : SpeakerState) (slot : ℕ) → IsShortAt s slot → is_standing (link_at s.links slot) ≡ true
short_stands s slot short = rw (short.is, short.up) refl

standing_put : (b : Bool) (l : Linked) (before : Option Linked) → is_standing (Some l) ≡ false → is_standing (cond b (Some l) before) ≡ cond b false (is_standing before)
standing_put true l before is = is
standing_put false l before is = refl

-- and then it doesn't
pub starved_falls : (slot : ℕ) (old new : SpeakerState) → (short : IsShortAt old slot) → Moves slot short.linked NoMemory old new
    → (s : ℕ) → is_standing (link_at new.links s) ≡ cond (s == slot) false (is_standing (link_at old.links s))
starved_falls slot old new short moves s =
    ap is_standing (moves.links s) ∙ standing_put (s == slot) (moved old.moment short.linked NoMemory) (link_at old.links s) (rw short.up refl)
