use Rattle.std.proofs.Common.{◌≡◌, ◌<◌, ◌||◌, ◌+◌, ◌==◌, ◌&&◌, ℕ, Bool, true, false, List, ◌∷◌, length, drop, get_or, Option, Some, None, refl, sym, ap, ◌∙◌, subst}
use Rattle.std.proofs.lemmas.List.{drop_more}
use Rattle.std.proofs.lemmas.List.Folds.{list_any_at}
use Rattle.net_prefix.specs.declared.prefix.Prefix.{Prefix}
use Rattle.rib_out.specs.Held.{is_among, is_prefix}
use Rattle.rib_out.specs.Waiting.{IsAwaited, WaitingState}
use Rattle.rib_out.specs.declared.marks.Owed.{Owed}
use Rattle.rib_out.proofs.Prefixes.{is_prefix-refl}
use Rattle.routing.proofs.Places.{same_from_is_prefix}

-- Prefixes that are told together.

-- each of them is among them
pub item_among : (prefixes : List Prefix) (i : ℕ) (p : Prefix) → i < length prefixes → p ≡ get_or prefixes i p → is_among p prefixes ≡ true
item_among prefixes i p within is = list_any_at (λ q. is_prefix q p) prefixes i p within (ap (λ q. is_prefix q p) (sym is) ∙ is_prefix-refl p)

either_of : (b c : Bool) → (b || c) ≡ false → b ≡ false → c ≡ false
either_of true c is other = absurd (cc)
either_of false c is other = is

-- who is left out of those behind one is that one, or left out of those from it on
pub left_out : (prefixes : List Prefix) (i : ℕ) (p q : Prefix) → i < length prefixes → p ≡ get_or prefixes i p → is_among q (drop (i + 1) prefixes) ≡ false → is_prefix p q ≡ false → is_among q (drop i prefixes) ≡ false
left_out prefixes i p q within is out other =
    ap (is_among q) (drop_more prefixes i p within) ∙ ap (λ x. is_among q (x ∷ drop (i + 1) prefixes)) (sym is) ∙ neither (is_prefix p q) (is_among q (drop (i + 1) prefixes)) other out
  where
    neither : (b c : Bool) → b ≡ false → c ≡ false → (b || c) ≡ false
    neither true c is none = absurd (cc)
    neither false c is none = none

-- of one more these octets are held
pub held_more : (prefixes : List Prefix) (i : ℕ) (p : Prefix) (held : Prefix → Option (List ℕ)) (octets : List ℕ) → i < length prefixes → p ≡ get_or prefixes i p
    → ((q : Prefix) → is_among q prefixes ≡ true → is_among q (drop i prefixes) ≡ false → held q ≡ Some octets) → held p ≡ Some octets
    → (q : Prefix) → is_among q prefixes ≡ true → is_among q (drop (i + 1) prefixes) ≡ false → held q ≡ Some octets
held_more prefixes i p held octets within is before here q among out = by_test (is_prefix p q) refl
  where
    by_test : (b : Bool) → is_prefix p q ≡ b → held q ≡ Some octets
    by_test true same = subst (λ x. held x ≡ Some octets) (same_from_is_prefix p q same) here
    by_test false other = before q among (left_out prefixes i p q within is out other)

-- those told so far wait no more, and the others as they did
pub record ToldSo (slot : ℕ) (prefixes : List Prefix) (i : ℕ) (old new : WaitingState) : Type 0 where
  pub told : (q : Prefix) → is_among q prefixes ≡ true → is_among q (drop i prefixes) ≡ false → IsAwaited new slot q None
  pub others : (s : ℕ) (q : Prefix) (w : Option Owed) → (s == slot && is_among q prefixes) ≡ false → IsAwaited old s q w → IsAwaited new s q w

pub ToldSo-none : (slot : ℕ) (prefixes : List Prefix) (t : WaitingState) → ToldSo slot prefixes 0 t t
ToldSo-none slot prefixes t = record { told = λ q here out. absurd (let never = sym here ∙ out in cc); others = λ s q w off was. was }

off_among : (a b c : Bool) → (a && b) ≡ false → (c ≡ true → b ≡ true) → (a && c) ≡ false
off_among true b true off sub = sym (sub refl) ∙ off
off_among true b false off sub = refl
off_among false b c off sub = refl

pub ToldSo-more : (slot : ℕ) (prefixes : List Prefix) (i : ℕ) (p : Prefix) (old now new : WaitingState) → i < length prefixes → p ≡ get_or prefixes i p → ToldSo slot prefixes i old now → IsAwaited new slot p None
    → ((s : ℕ) (q : Prefix) (w : Option Owed) → (s == slot && is_prefix p q) ≡ false → IsAwaited now s q w → IsAwaited new s q w) → ToldSo slot prefixes (i + 1) old new
ToldSo-more slot prefixes i p old now new within is h here others = record {
  told = λ q among out. by_test q among out (is_prefix p q) refl;
  others = λ s q w off was.
      others s q w (off_among (s == slot) (is_among q prefixes) (is_prefix p q) off (λ same. subst (λ x. is_among x prefixes ≡ true) (same_from_is_prefix p q same) (item_among prefixes i p within is))) (h.others s q w off was);
}
  where
    by_test : (q : Prefix) → is_among q prefixes ≡ true → is_among q (drop (i + 1) prefixes) ≡ false → (b : Bool) → is_prefix p q ≡ b → IsAwaited new slot q None
    by_test q among out true same = subst (λ x. IsAwaited new slot x None) (same_from_is_prefix p q same) here
    by_test q among out false other = others slot q None (off_prefix (slot == slot) other) (h.told q among (left_out prefixes i p q within is out other))
      where
        off_prefix : (a : Bool) → is_prefix p q ≡ false → (a && is_prefix p q) ≡ false
        off_prefix true other = other
        off_prefix false other = refl
