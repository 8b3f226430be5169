use Rattle.std.proofs.Common.{◌≡◌, ◌≤◌, ◌||◌, ◌++◌, ◌⊎◌, ℕ, Bool, true, false, List, [], ◌∷◌, refl, sym, ap, ◌∙◌, subst, arith, length-append, append_assoc, inl, inr}
use Rattle.std.proofs.lemmas.Cmp.{tied_itself}
use Rattle.std.proofs.lemmas.List.Elements.{Contains-append_right}
use Rattle.std.proofs.lemmas.List.Folds.{list_any-append}
use Rattle.std.specs.List.{Contains, AllByRecursion}
use Rattle.std.specs.List.Sorted as sorted
use Rattle.std.specs.List.Sorted.{IsStrictlySortedBy}
use Rattle.std.specs.Ordering.{is_eq}
use Rattle.std.specs.declared.cmp.Ordering.{Ordering}
use Rattle.std.specs.declared.cmp.Ordering.TheVariants.{Less, Equal, Greater}
use Rattle.net_prefix.specs.PrefixOrder.{prefix_cmp}
use Rattle.net_prefix.specs.declared.prefix.Prefix.{Prefix}
use Rattle.net_prefix.proofs.PayloadSets.{prefix_cmp_exact, prefix_cmp_total}
use Rattle.origin_valid.specs.Stretches.{stretches}
use Rattle.origin_valid.proofs.CoverFacts.{covers_to}
use Rattle.origin_valid.proofs.Outsides.{sorted-stretches}
use Rattle.origin_valid.proofs.StretchLaws.{stretches-once}
use Rattle.prefix_trie.specs.CoverWalks.{covers}
use Rattle.routing.specs.Updates.{is_among}
use Rattle.routing.specs.Chosen.{AreDifferent, OncePerPrefix}
use Rattle.routing.specs.Offers.{AreMadeWhere, Offers, is_within}
use Rattle.routing.specs.Tables.{Tables}
use Rattle.routing.proofs.Counting.{different_as}
use Rattle.routing.proofs.RemadeOffers.{made_both}

-- Stretches one after another.

here : (x : Prefix) (xs : List Prefix) → Contains (x ∷ xs) x
here x xs = (0, omega arith, refl)

-- no prefix lies in a stretch and in a later one
apart_later : (front rest : List Prefix) (e p : Prefix) → IsStrictlySortedBy prefix_cmp (front ++ e ∷ rest)
    → ((a b : Prefix) → Contains (front ++ e ∷ rest) a → Contains (front ++ e ∷ rest) b → covers a p ≡ true → covers b p ≡ true → a ≡ b)
    → is_within front p ≡ true → covers e p ≡ true → ⊥
unfolding sorted.IsStrictlySortedBy
apart_later [] rest e p rises once within over = let never = within in cc
apart_later (x ∷ front) rest e p rises once within over =
    by_test (covers x p) refl within
    (λ w. apart_later front rest e p rises.1 (λ a b at_a at_b. once a b (Contains-append_right (x ∷ []) (front ++ e ∷ rest) a at_a) (Contains-append_right (x ∷ []) (front ++ e ∷ rest) b at_b)) w over)
  where
    less_than : (ys zs : List Prefix) → AllByRecursion (λ y. prefix_cmp x y ≡ Less) (ys ++ e ∷ zs) → prefix_cmp x e ≡ Less
    less_than [] zs all = all.0
    less_than (y ∷ ys) zs all = less_than ys zs all.1

    by_test : (b : Bool) → covers x p ≡ b → (b || is_within front p) ≡ true → (is_within front p ≡ true → ⊥) → ⊥
    by_test true at w later =
        let one : x ≡ e = once x e (here x (front ++ e ∷ rest)) (Contains-append_right (x ∷ front) (e ∷ rest) e (here e rest)) at over in
        let less = less_than front rest rises.0 in
        let tied = tied_itself prefix_cmp_total x ∙ refl in
        let equal : prefix_cmp x e ≡ Equal = subst (λ y. prefix_cmp x y ≡ Equal) one tied in
        let never = sym less ∙ equal in cc
    by_test false at w later = later w

-- with one more stretch
within_push : (seen : List Prefix) (e p : Prefix) → is_within (seen ++ e ∷ []) p ≡ (is_within seen p || covers e p)
within_push seen e p = list_any-append (λ s. covers s p) seen (e ∷ []) ∙ ap (λ b. is_within seen p || b) (or_false (covers e p))
  where
    or_false : (b : Bool) → (b || false) ≡ b
    or_false true = refl
    or_false false = refl

-- different prefixes of the one kind and then of the other
among_append : (p : Prefix) (xs ys : List Prefix) → is_among p (xs ++ ys) ≡ (is_among p xs || is_among p ys)
among_append p xs ys = list_any-append (λ q. is_eq (prefix_cmp q p)) xs ys

none_among : (H K : Prefix → Type 0) (p : Prefix) (qs : List Prefix) → H p → AreDifferent K qs → ((q : Prefix) → H q → K q → ⊥) → is_among p qs ≡ false
none_among H K p [] held different never = refl
none_among H K p (q ∷ qs) held different never = by_test (is_eq (prefix_cmp q p)) refl (none_among H K p qs held different.2 never)
  where
    equal_from : (o : Ordering) → is_eq o ≡ true → o ≡ Equal
    equal_from Less h = absurd (cc)
    equal_from Equal h = refl
    equal_from Greater h = absurd (cc)

    by_test : (b : Bool) → is_eq (prefix_cmp q p) ≡ b → is_among p qs ≡ false → (b || is_among p qs) ≡ false
    by_test true at later = absurd (never p held (subst K (prefix_cmp_exact q p (equal_from (prefix_cmp q p) at)) different.1))
    by_test false at later = later

different_both : (H K J : Prefix → Type 0) (ps qs : List Prefix) → AreDifferent H ps → AreDifferent K qs → ((p : Prefix) → H p → K p → ⊥) → ((p : Prefix) → H p → J p) → ((p : Prefix) → K p → J p) → AreDifferent J (ps ++ qs)
different_both H K J [] qs first second never h k = different_as K J qs k second
different_both H K J (p ∷ ps) qs first second never h k =
    (among_append p ps qs ∙ rw (first.0) (none_among H K p qs first.1 second never), h p first.1, different_both H K J ps qs first.2 second never h k)

-- the walk over stretches: those so far
pub record Touches (t : Tables) (routed : Prefix → Type 0) (all seen rest : List Prefix) (had now : Offers) (before count : ℕ) : Type 0 where
  pub whole : seen ++ rest ≡ stretches all
  pub made : AreMadeWhere t (is_within seen) had now
  pub chosen : OncePerPrefix (λ p. (is_within seen p ≡ true) × routed p) before count
  pub rises : before ≤ count

pub Touches-none : (t : Tables) (routed : Prefix → Type 0) (all rest : List Prefix) (had : Offers) (count : ℕ) → rest ≡ stretches all → AreMadeWhere t (λ q. false) had had → Touches t routed all [] rest had had count count
Touches-none t routed all rest had count whole made = record { whole = whole; made = made; chosen = ([], tt, omega arith); rises = omega arith }

either_true : (a b : Bool) → (a ≡ true) ⊎ (b ≡ true) → (a || b) ≡ true
either_true true b h = refl
either_true false b (inl h) = absurd (cc)
either_true false b (inr h) = h

pub Touches-more : (t : Tables) (routed : Prefix → Type 0) (all seen rest next : List Prefix) (e : Prefix) (had now new : Offers) (before count later : ℕ) → Touches t routed all seen rest had now before count → rest ≡ e ∷ next
    → AreMadeWhere t (covers e) now new → OncePerPrefix (λ p. (covers e p ≡ true) × routed p) count later → count ≤ later → Touches t routed all (seen ++ e ∷ []) next had new before later
Touches-more t routed all seen rest next e had now new before count later h is made more rises = record {
  whole = append_assoc seen (e ∷ []) next ∙ whole;
  made = made_both t (is_within seen) (covers e) (is_within (seen ++ e ∷ [])) had now new h.made made (within_push seen e);
  chosen = (
    h.chosen.0 ++ more.0,
    different_both (λ p. (is_within seen p ≡ true) × routed p) (λ p. (covers e p ≡ true) × routed p) (λ p. (is_within (seen ++ e ∷ []) p ≡ true) × routed p) h.chosen.0 more.0 h.chosen.1 more.1
        (λ p first second. apart_later seen next e p (subst (IsStrictlySortedBy prefix_cmp) (sym whole) (sorted-stretches all)) (once p) first.0 second.0)
        (λ p first. (within_push seen e p ∙ either_true (is_within seen p) (covers e p) (inl first.0), first.1))
        (λ p second. (within_push seen e p ∙ either_true (is_within seen p) (covers e p) (inr second.0), second.1)),
    let few = h.chosen.2 in let again = more.2 in let joined = length-append h.chosen.0 more.0 in omega (arith, few, again, joined),
  );
  rises = let so_far = h.rises in omega (arith, so_far, rises);
}
  where
    whole : seen ++ e ∷ next ≡ stretches all
    whole = ap (λ x. seen ++ x) (sym is) ∙ h.whole

    once : (p a b : Prefix) → Contains (seen ++ e ∷ next) a → Contains (seen ++ e ∷ next) b → covers a p ≡ true → covers b p ≡ true → a ≡ b
    once p a b at_a at_b over_a over_b =
        stretches-once all a b p (subst (λ l. Contains l a) whole at_a) (subst (λ l. Contains l b) whole at_b) (covers_to a p over_a) (covers_to b p over_b)

pub Touches-all : (t : Tables) (routed : Prefix → Type 0) (all seen rest : List Prefix) (had now : Offers) (before count : ℕ) → Touches t routed all seen rest had now before count → rest ≡ [] → seen ≡ stretches all
Touches-all t routed all seen rest had now before count h none = sym (append_nil seen) ∙ ap (λ x. seen ++ x) (sym none) ∙ h.whole
  where
    append_nil : (xs : List Prefix) → xs ++ [] ≡ xs
    append_nil [] = refl
    append_nil (x ∷ xs) = ap (λ ys. x ∷ ys) (append_nil xs)
