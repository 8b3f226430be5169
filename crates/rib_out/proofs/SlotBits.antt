-- Sets of slots by their bits.
use Rattle.std.proofs.Common.{◌≡◌, ◌≢◌, ℕ, zero, suc, ◌-◌, ◌^◌, ◌<◌, ◌==◌, ◌&&◌, ◌||◌, Bool, true, false, cond, not, bit_and, bit_or, min, max, inl, inr, refl, sym, ap, ◌∙◌, arith}
use Rattle.std.proofs.lemmas.Bool.{cases_lt}
use Rattle.std.proofs.lemmas.Bool.Decides.{nat_tests}
use Rattle.std.proofs.lemmas.Nat.{pow_below}
use Rattle.std.proofs.lemmas.Nat.Bits.{bit_at_above, bit_at_and, bit_at_not, bit_at_or, bit_at-lt, bit_at-pow_other, bit_at-pow_same, bit_at-zero, same_from_bits}
use Rattle.std.specs.Int.{bit_at, bit_not, w64}
use Rattle.rib_out.specs.Slots.{has_slot}

same_slot : (s slot : ℕ) → (s == slot) ≡ true → s ≡ slot
same_slot s slot h = grind (arith, nat_tests)

other_slot : (s slot : ℕ) → (s == slot) ≡ false → s ≢ slot
other_slot s slot h = λ e. grind (arith, nat_tests)

-- the bit of the set of one slot
bit_case : (s slot : ℕ) (b : Bool) → (s == slot) ≡ b → bit_at (2 ^ slot) s ≡ (cond b 1 0)
bit_case s slot true h = ap (bit_at (2 ^ slot)) (same_slot s slot h) ∙ bit_at-pow_same slot
bit_case s slot false h = bit_at-pow_other slot s (other_slot s slot h)

or_case : (x : ℕ) (b : Bool) → x < 2 → (max x (cond b 1 0) == 1) ≡ (b || (x == 1))
or_case x true small = let one : max x 1 ≡ 1 = omega arith in rw one refl
or_case x false small = let same : max x 0 ≡ x = omega arith in rw same refl

and_case : (x : ℕ) (b : Bool) → x < 2 → (min x (1 - (cond b 1 0)) == 1) ≡ (not b && (x == 1))
and_case x true small = let none : min x (1 - 1) ≡ 0 = omega arith in rw none refl
and_case x false small = let same : min x (1 - 0) ≡ x = omega arith in rw same refl

pub has_slot-with : (slots slot s : ℕ) → has_slot (bit_or slots (2 ^ slot)) s ≡ (s == slot || has_slot slots s)
has_slot-with slots slot s =
    ap (λ n. n == 1) (bit_at_or slots (2 ^ slot) s ∙ ap (max (bit_at slots s)) (bit_case s slot (s == slot) refl))
    ∙ or_case (bit_at slots s) (s == slot) (bit_at-lt slots s)

low_case : (slots slot s : ℕ) → slot < 64 → s < 64 → has_slot (bit_and slots (bit_not w64 (2 ^ slot))) s ≡ (not (s == slot) && has_slot slots s)
low_case slots slot s few low =
    ap (λ n. n == 1) (bit_at_and slots (bit_not w64 (2 ^ slot)) s
    ∙ ap (min (bit_at slots s)) (bit_at_not w64 (2 ^ slot) s (pow_below slot 64 few) low ∙ ap (λ n. 1 - n) (bit_case s slot (s == slot) refl)))
    ∙ and_case (bit_at slots s) (s == slot) (bit_at-lt slots s)

none_case : (b : Bool) → false ≡ (b && false)
none_case true = refl
none_case false = refl

pub has_slot-without : (slots slot s : ℕ) → slots < 2 ^ 64 → slot < 64 → has_slot (bit_and slots (bit_not w64 (2 ^ slot))) s ≡ (not (s == slot) && has_slot slots s)
has_slot-without slots slot s fits few =
    elim (cases_lt s 64) [
      | inl low ↦ low_case slots slot s few low
      | inr high ↦
          let gone : bit_at slots s ≡ 0 = bit_at_above slots 64 s fits high in
          let none : bit_at (bit_and slots (bit_not w64 (2 ^ slot))) s ≡ 0 = omega (arith, bit_at_and slots (bit_not w64 (2 ^ slot)) s) in
          rw (none, gone) (none_case (not (s == slot)))
    ]

-- sets without a common slot, slot by slot
pub apart_from_slots : (a b : ℕ) → ((s : ℕ) → (has_slot a s && has_slot b s) ≡ false) → bit_and a b ≡ 0
apart_from_slots a b h = same_from_bits (bit_and a b) 0 (λ s. bit_at_and a b s ∙ low (bit_at a s) (bit_at b s) (bit_at-lt a s) (bit_at-lt b s) (h s) ∙ sym (bit_at-zero s))
  where
    low : (x y : ℕ) → x < 2 → y < 2 → ((x == 1) && (y == 1)) ≡ false → min x y ≡ 0
    low zero y p q h = omega arith
    low (suc x) zero p q h = omega arith
    low (suc zero) (suc zero) p q h = absurd cc
    low (suc zero) (suc (suc y)) p q h = absurd (omega arith)
    low (suc (suc x)) y p q h = absurd (omega arith)

pub slots_from_apart : (a b s : ℕ) → bit_and a b ≡ 0 → (has_slot a s && has_slot b s) ≡ false
slots_from_apart a b s h = low (bit_at a s) (bit_at b s) (bit_at-lt a s) (sym (bit_at_and a b s) ∙ ap (λ n. bit_at n s) h ∙ bit_at-zero s)
  where
    low : (x y : ℕ) → x < 2 → min x y ≡ 0 → ((x == 1) && (y == 1)) ≡ false
    low zero y p h = refl
    low (suc zero) zero p h = refl
    low (suc zero) (suc y) p h = absurd (omega arith)
    low (suc (suc x)) y p h = absurd (omega arith)
