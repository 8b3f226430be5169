use Rattle.std.proofs.Common.{◌≡◌, ◌≤◌, ◌+◌, ◌&&◌, ◌||◌, ℕ, suc, Bool, true, false, not, List, [], ◌∷◌, ◌++◌, length, cond, refl, sym, ◌∙◌, subst, arith, length-append}
use Rattle.std.specs.Ordering.{is_eq}
use Rattle.bgp_msg.specs.UpdateMeaning.{UpdateBody}
use Rattle.net_prefix.specs.PrefixOrder.{prefix_cmp}
use Rattle.net_prefix.specs.declared.prefix.Prefix.{Prefix}
use Rattle.rib_out.proofs.Prefixes.{is_prefix-refl}
use Rattle.routing.specs.Updates.{is_among, is_only_withdrawn}
use Rattle.routing.specs.Chosen.{how_many, named_in, AreDifferent, OncePerPrefix}
use Rattle.routing.proofs.Counting.{among_all, different_as}
use Rattle.routing.proofs.Places.{same_from_is_prefix}

-- How often a best route may be chosen, by a history: different prefixes with a route are as many at most as are counted.

-- ---- different prefixes are no more than those among which they are
neither : (a b : Bool) → (a || b) ≡ false → (a ≡ false) × (b ≡ false)
neither true b h = absurd (cc)
neither false b h = (refl, h)

nor_so : (a b : Bool) → a ≡ false → b ≡ false → (a || b) ≡ false
nor_so true b here there = here
nor_so false b here there = there

other_way : (p q : Prefix) → is_eq (prefix_cmp p q) ≡ false → is_eq (prefix_cmp q p) ≡ false
other_way p q other = by_test (is_eq (prefix_cmp q p)) refl
  where
    by_test : (b : Bool) → is_eq (prefix_cmp q p) ≡ b → b ≡ false
    by_test false is = refl
    by_test true is = let refuted = sym (subst (λ x. is_eq (prefix_cmp x q) ≡ true) (same_from_is_prefix q p is) (is_prefix-refl q)) ∙ other in absurd (cc)

different_but : (says : Prefix → Type 0) (q : Prefix) (ps : List Prefix) → is_among q ps ≡ false → AreDifferent says ps → AreDifferent (λ p. says p × (is_eq (prefix_cmp q p) ≡ false)) ps
different_but says q [] out h = tt
different_but says q (p ∷ ps) out h =
    let parts = neither (is_eq (prefix_cmp p q)) (is_among q ps) out in
    (h.0, (h.1, other_way p q parts.0), different_but says q ps parts.1 h.2)

-- of different prefixes all but one
record Without (says : Prefix → Type 0) (q : Prefix) (ps : List Prefix) : Type 0 where
  rest : List Prefix
  different : AreDifferent (λ p. says p × (is_eq (prefix_cmp q p) ≡ false)) rest
  says_it : says q
  count : length ps ≡ length rest + 1
  out : (x : Prefix) → is_among x ps ≡ false → is_among x rest ≡ false

without_case : (says : Prefix → Type 0) (q p : Prefix) (ps : List Prefix) → AreDifferent says (p ∷ ps) → (is_among q ps ≡ true → Without says q ps) → (b : Bool) → is_eq (prefix_cmp p q) ≡ b
    → (b || is_among q ps) ≡ true → Without says q (p ∷ ps)
without_case says q p ps h later true same there =
    let this : p ≡ q = same_from_is_prefix p q same in
    record {
      rest = ps;
      different = different_but says q ps (subst (λ x. is_among x ps ≡ false) this h.0) h.2;
      says_it = subst says this h.1;
      count = omega arith;
      out = λ x none. (neither (is_eq (prefix_cmp p x)) (is_among x ps) none).1;
    }
without_case says q p ps h later false other there =
    let w = later there in
    let count = w.count in
    record {
      rest = p ∷ w.rest;
      different = (w.out p h.0, (h.1, other_way p q other), w.different);
      says_it = w.says_it;
      count = omega (arith, count);
      out = λ x none. let parts = neither (is_eq (prefix_cmp p x)) (is_among x ps) none in nor_so (is_eq (prefix_cmp p x)) (is_among x w.rest) parts.0 (w.out x parts.1);
    }

without : (says : Prefix → Type 0) (q : Prefix) (ps : List Prefix) → AreDifferent says ps → is_among q ps ≡ true → Without says q ps
without says q [] h there = absurd (cc)
without says q (p ∷ ps) h there = without_case says q p ps h (λ later. without says q ps h.2 later) (is_eq (prefix_cmp p q)) refl there

-- it is so of this one, and it is among these
abbrev pub IsOne : (Prefix → Bool) → List Prefix → Prefix → Type 0
IsOne holds all p = (holds p ≡ true) × (is_among p all ≡ true)

among_later : (q p : Prefix) (all : List Prefix) → is_eq (prefix_cmp q p) ≡ false → is_among p (q ∷ all) ≡ true → is_among p all ≡ true
among_later q p all other there = rw other at there

among_again : (q p : Prefix) (all : List Prefix) → is_among q all ≡ true → is_among p (q ∷ all) ≡ true → is_among p all ≡ true
among_again q p all again there = by_test (is_eq (prefix_cmp q p)) refl there
  where
    by_test : (b : Bool) → is_eq (prefix_cmp q p) ≡ b → (b || is_among p all) ≡ true → is_among p all ≡ true
    by_test true same is = subst (λ x. is_among x all ≡ true) (same_from_is_prefix q p same) again
    by_test false other is = is

one_more : (a : Bool) (n m : ℕ) → n ≤ m → n ≤ cond a (suc m) m
one_more true n m few = omega (arith, few)
one_more false n m few = few

most_case : (holds : Prefix → Bool) (q : Prefix) (all ps : List Prefix) → AreDifferent (IsOne holds (q ∷ all)) ps → ((rest : List Prefix) → AreDifferent (IsOne holds all) rest → length rest ≤ how_many holds all)
    → (again there : Bool) → is_among q all ≡ again → is_among q ps ≡ there → length ps ≤ how_many holds (q ∷ all)
most_case holds q all ps h later true there again is =
    one_more (holds q && not (is_among q all)) _ _ (later ps (different_as (IsOne holds (q ∷ all)) (IsOne holds all) ps (λ p one. (one.0, among_again q p all again one.1)) h))
most_case holds q all ps h later false true once is =
    let w = without (IsOne holds (q ∷ all)) q ps h is in
    let few = later w.rest (different_as (λ p. IsOne holds (q ∷ all) p × (is_eq (prefix_cmp q p) ≡ false)) (IsOne holds all) w.rest (λ p one. (one.0.0, among_later q p all one.1 one.0.1)) w.different) in
    let count = w.count in
    rw (w.says_it.0, once) (omega (arith, few, count))
most_case holds q all ps h later false false once is =
    one_more (holds q && not (is_among q all)) _ _
    (later ps (different_as (λ p. IsOne holds (q ∷ all) p × (is_eq (prefix_cmp q p) ≡ false)) (IsOne holds all) ps (λ p one. (one.0.0, among_later q p all one.1 one.0.1)) (different_but (IsOne holds (q ∷ all)) q ps is h)))

pub most_of : (holds : Prefix → Bool) (all ps : List Prefix) → AreDifferent (IsOne holds all) ps → length ps ≤ how_many holds all
most_of holds [] [] h = omega arith
most_of holds [] (p ∷ ps) h = let never = h.1.1 in absurd (cc)
most_of holds (q ∷ all) ps h = most_case holds q all ps h (λ rest. most_of holds all rest) (is_among q all) (is_among q ps) refl refl

pub among_behind : (p : Prefix) (xs ys : List Prefix) → is_among p ys ≡ true → is_among p (xs ++ ys) ≡ true
among_behind p [] ys there = there
among_behind p (x ∷ xs) ys there = or_later (is_eq (prefix_cmp x p)) (is_among p (xs ++ ys)) (among_behind p xs ys there)
  where
    or_later : (a b : Bool) → b ≡ true → (a || b) ≡ true
    or_later true b is = refl
    or_later false b is = is

-- ---- the prefixes that an UPDATE names
apart_case : (q p : Prefix) (announced ps : List Prefix) → is_among q announced ≡ false → is_among p announced ≡ true → is_among q ps ≡ false → (b : Bool) → is_eq (prefix_cmp p q) ≡ b → (b || is_among q ps) ≡ false
apart_case q p announced ps out there later true same = let refuted = sym (subst (λ x. is_among x announced ≡ true) (same_from_is_prefix p q same) there) ∙ out in absurd (cc)
apart_case q p announced ps out there later false other = later

apart_from : (q : Prefix) (announced ps : List Prefix) → is_among q announced ≡ false → AreDifferent (λ p. is_among p announced ≡ true) ps → is_among q ps ≡ false
apart_from q announced [] out h = refl
apart_from q announced (p ∷ ps) out h = apart_case q p announced ps out h.1 (apart_from q announced ps out h.2) (is_eq (prefix_cmp p q)) refl

among_neither : (q : Prefix) (ps qs : List Prefix) → is_among q ps ≡ false → is_among q qs ≡ false → is_among q (ps ++ qs) ≡ false
among_neither q [] qs here there = there
among_neither q (p ∷ ps) qs here there = let parts = neither (is_eq (prefix_cmp p q)) (is_among q ps) here in nor_so (is_eq (prefix_cmp p q)) (is_among q (ps ++ qs)) parts.0 (among_neither q ps qs parts.1 there)

both_parts : (a b : Bool) → (a && not b) ≡ true → (a ≡ true) × (b ≡ false)
both_parts true false h = (refl, refl)
both_parts true true h = absurd (cc)
both_parts false b h = absurd (cc)

-- those that are withdrawn alone, and those that are announced, differ
joined : (withdrawn announced ps qs : List Prefix) → AreDifferent (λ p. is_only_withdrawn withdrawn announced p ≡ true) ps → AreDifferent (λ p. is_among p announced ≡ true) qs
    → AreDifferent (IsOne (λ p. true) (withdrawn ++ announced)) (ps ++ qs)
joined withdrawn announced [] qs h k = different_as (λ p. is_among p announced ≡ true) (IsOne (λ p. true) (withdrawn ++ announced)) qs (λ p there. (refl, among_behind p withdrawn announced there)) k
joined withdrawn announced (p ∷ ps) qs h k =
    let parts = both_parts (is_among p withdrawn) (is_among p announced) h.1 in
    (among_neither p ps qs h.0 (apart_from p announced qs parts.1 k), (refl, among_all p withdrawn announced parts.0), joined withdrawn announced ps qs h.2 k)

pub most_named : (update : UpdateBody) (a b c : ℕ) → OncePerPrefix (λ p. is_only_withdrawn update.withdrawn update.announced p ≡ true) a b → OncePerPrefix (λ p. is_among p update.announced ≡ true) b c
    → c ≤ a + named_in update
most_named update a b c gone come =
    let few = most_of (λ p. true) (update.withdrawn ++ update.announced) (gone.0 ++ come.0) (joined update.withdrawn update.announced gone.0 come.0 gone.1 come.1) in
    let first = gone.2 in
    let second = come.2 in
    omega (arith, few, first, second, length-append gone.0 come.0)

-- where only the withdrawn ones are taken
pub most_withdrawn : (update : UpdateBody) (a b : ℕ) → OncePerPrefix (λ p. is_only_withdrawn update.withdrawn update.announced p ≡ true) a b → b ≤ a + named_in update
most_withdrawn update a b gone = most_named update a b b gone ([], tt, omega arith)
