-- There are no more holdings of one prefix than peers, and one that was made ready.
use Rattle.std.proofs.Common.{◌≡◌, ◌==◌, ◌<◌, ◌≤◌, ◌^◌, ◌+◌, ◌⊎◌, ℕ, zero, suc, Bool, true, false, cond, List, [], ◌∷◌, Option, Some, None, length, inl, inr, refl, sym, ◌∙◌, arith}
use Rattle.std.proofs.lemmas.Bool.{cases_lt}
use Rattle.std.proofs.lemmas.Bool.Decides.{nat_tests}
use Rattle.std.proofs.lemmas.Nat.Bits.{bit_at-lt, bit_at-zero, same_from_bits_below}
use Rattle.std.specs.Int.{bit_at}
use Rattle.std.specs.Option.{is_some}
use Rattle.rib_out.specs.Slots.{has_slot}
use Rattle.holdings.specs.Bounded.{AreApart, AreBounded, IsCompact, unheld_count}
use Rattle.holdings.specs.Holdings.{Holding, octets_among}

abbrev one_if : Bool → ℕ
one_if b = cond b 1 0

-- how many of the first slots are in some holding
abbrev held_slots : List Holding → ℕ → ℕ
held_slots hs zero = 0
held_slots hs (suc n) = one_if (is_some (octets_among hs n)) + held_slots hs n

one_at_most : (b : Bool) → one_if b ≤ 1
one_at_most true = omega arith
one_at_most false = omega arith

held_at_most : (hs : List Holding) (n : ℕ) → held_slots hs n ≤ n
held_at_most hs zero = omega arith
held_at_most hs (suc n) = omega (arith, one_at_most (is_some (octets_among hs n)), held_at_most hs n)

-- no fewer are in some of more holdings
more_here : (b : Bool) (x : List ℕ) (o : Option (List ℕ)) → one_if (is_some o) ≤ one_if (is_some (cond b (Some x) o))
more_here true x o = one_at_most (is_some o)
more_here false x o = omega arith

more_held : (h : Holding) (hs : List Holding) (n : ℕ) → held_slots hs n ≤ held_slots (h ∷ hs) n
more_held h hs zero = omega arith
more_held h hs (suc n) = omega (arith, more_here (has_slot h.slots n) h.octets (octets_among hs n), more_held h hs n)

-- and one more, where the first has a slot
new_here : (b : Bool) (x : List ℕ) (o : Option (List ℕ)) → b ≡ true → o ≡ None → (one_if (is_some o) ≡ 0) × (one_if (is_some (cond b (Some x) o)) ≡ 1)
new_here true x None has none = (refl, refl)
new_here true x (Some y) has none = absurd cc
new_here false x o has none = absurd cc

one_more : (h : Holding) (hs : List Holding) → ((s : ℕ) → has_slot h.slots s ≡ true → octets_among hs s ≡ None) → (n : ℕ)
    → (held_slots hs n < held_slots (h ∷ hs) n) ⊎ ((s : ℕ) → s < n → has_slot h.slots s ≡ false)
one_more h hs alone zero = inr (λ s low. absurd (omega arith))
one_more h hs alone (suc n) = step (has_slot h.slots n) refl (one_more h hs alone n)
  where
    step : (b : Bool) → has_slot h.slots n ≡ b → (held_slots hs n < held_slots (h ∷ hs) n) ⊎ ((s : ℕ) → s < n → has_slot h.slots s ≡ false)
        → (held_slots hs (suc n) < held_slots (h ∷ hs) (suc n)) ⊎ ((s : ℕ) → s < suc n → has_slot h.slots s ≡ false)
    step b is (inl more) = inl (omega (arith, more_here (has_slot h.slots n) h.octets (octets_among hs n), more))
    step true has (inr none) =
        let new = new_here (has_slot h.slots n) h.octets (octets_among hs n) has (alone n has) in
        inl (omega (arith, new.0, new.1, more_held h hs n))
    step false hasn't (inr none) = inr (λ s low. below s low (cases_lt s n))
      where
        below : (s : ℕ) → s < suc n → (s < n) ⊎ (n ≤ s) → has_slot h.slots s ≡ false
        below s low (inl less) = none s less
        below s low (inr high) = let at : s ≡ n = omega arith in rw at hasn't

-- a holding without slots has the number 0
no_bit : (x : ℕ) → x < 2 → (x == 1) ≡ false → x ≡ 0
no_bit x small none = grind (arith, nat_tests)

no_slots : (slots : ℕ) → slots < 2 ^ 64 → ((s : ℕ) → s < 64 → has_slot slots s ≡ false) → slots ≡ 0
no_slots slots fits none =
    same_from_bits_below 64 slots 0 fits (omega arith) (λ s low. no_bit (bit_at slots s) (bit_at-lt slots s) (none s low) ∙ sym (bit_at-zero s))

few_step : (h : Holding) (hs : List Holding) (b : Bool) → (h.slots == 0) ≡ b → AreApart (h ∷ hs) → length hs ≤ held_slots hs 64 + unheld_count hs
    → suc (length hs) ≤ held_slots (h ∷ hs) 64 + (one_if b + unheld_count hs)
few_step h hs true none apart more = omega (arith, more_held h hs 64, more)
few_step h hs false some apart more = by_slot (one_more h hs apart.1 64)
  where
    by_slot : (held_slots hs 64 < held_slots (h ∷ hs) 64) ⊎ ((s : ℕ) → s < 64 → has_slot h.slots s ≡ false) → suc (length hs) ≤ held_slots (h ∷ hs) 64 + (0 + unheld_count hs)
    by_slot (inl less) = omega (arith, less, more)
    by_slot (inr none) = absurd (let zero_slots : h.slots ≡ 0 = no_slots h.slots apart.0 none in grind (arith, nat_tests))

-- each holding has a slot of its own, or is one that no peer holds
few : (hs : List Holding) → AreApart hs → length hs ≤ held_slots hs 64 + unheld_count hs
few [] apart = omega arith
few (h ∷ hs) apart = few_step h hs (h.slots == 0) refl apart (few hs apart.2)

pub at_most_64 : (hs : List Holding) → IsCompact hs → length hs ≤ 64
at_most_64 hs compact = omega (arith, few hs compact.0, compact.1, held_at_most hs 64)

pub at_most_65 : (hs : List Holding) → AreBounded hs → length hs ≤ 65
at_most_65 hs bounded = omega (arith, few hs bounded.0, bounded.2, held_at_most hs 64)
