-- Lists that have the same members pass a test alike.
use Rattle.std.proofs.Common.{◌≡◌, ◌||◌, Bool, true, false, List, [], ◌∷◌, map, refl, sym, ap, subst, ◌∙◌}
use Rattle.std.proofs.lemmas.Bool.{or_left, or_right}
use Rattle.std.proofs.lemmas.List.Folds.{Any-from_list_any, list_any-from_Any}
use Rattle.std.specs.BTreeMap.{is_at}
use Rattle.std.specs.Cmp.{IsTotalOrder, tied_itself}
use Rattle.std.specs.List.{Contains, list_any}
use Rattle.std.specs.Ordering.{is_eq}
use Rattle.std.specs.declared.cmp.Ordering.{Ordering}
use Rattle.std.specs.declared.cmp.Ordering.TheVariants.{Less, Equal, Greater}

equal_from : (o : Ordering) → is_eq o ≡ true → o ≡ Equal
equal_from Less h = absurd cc
equal_from Equal h = refl
equal_from Greater h = absurd cc

alike : (b c : Bool) → (b ≡ true → c ≡ true) → (c ≡ true → b ≡ true) → b ≡ c
alike true c to from = sym (to refl)
alike false true to from = from refl
alike false false to from = refl

module _ {K : Type 0} {R : K → K → Ordering} (o : IsTotalOrder R) (exact : (x y : K) → R x y ≡ Equal → x ≡ y) where
  -- the list has the key
  abbrev pub has_key : List K → K → Bool
  has_key xs q = list_any (is_at (R q)) xs

  pub key_first : (x : K) (xs : List K) → has_key (x ∷ xs) x ≡ true
  key_first x xs = or_left (is_at (R x) x) (has_key xs x) (ap is_eq (tied_itself o x))

  passed_case : (t : K → Bool) (q x : K) (xs : List K) (b : Bool) → is_at (R q) x ≡ b → (has_key xs q ≡ true → list_any t xs ≡ true) → (b || has_key xs q) ≡ true → t q ≡ true → (t x || list_any t xs) ≡ true
  passed_case t q x xs true at more h passes = or_left (t x) (list_any t xs) (subst (λ k. t k ≡ true) (exact q x (equal_from (R q x) at)) passes)
  passed_case t q x xs false at more h passes = or_right (t x) (list_any t xs) (more h)

  -- a key that passes is in the list
  pub any_passed : (t : K → Bool) (q : K) (xs : List K) → has_key xs q ≡ true → t q ≡ true → list_any t xs ≡ true
  any_passed t q [] h passes = absurd cc
  any_passed t q (x ∷ xs) h passes = passed_case t q x xs (is_at (R q) x) refl (λ more. any_passed t q xs more passes) h passes

  any_case : (t : K → Bool) (x : K) (xs b : List K) (p : Bool) → t x ≡ p → ((q : K) → t q ≡ true → has_key (x ∷ xs) q ≡ true → has_key b q ≡ true)
      → (list_any t xs ≡ true → list_any t b ≡ true) → (p || list_any t xs) ≡ true → list_any t b ≡ true
  any_case t x xs b true passes inside more h = any_passed t x b (inside x passes (key_first x xs)) passes
  any_case t x xs b false passes inside more h = more h

  pub any_inside : (t : K → Bool) (a b : List K) → ((q : K) → t q ≡ true → has_key a q ≡ true → has_key b q ≡ true) → list_any t a ≡ true → list_any t b ≡ true
  any_inside t [] b inside h = absurd cc
  any_inside t (x ∷ xs) b inside h =
      any_case t x xs b (t x) refl inside (any_inside t xs b (λ q passes there. inside q passes (or_right (is_at (R q) x) (has_key xs q) there))) h

  -- lists that have the same of the keys that pass
  pub any-same : (t : K → Bool) (a b : List K) → ((q : K) → t q ≡ true → has_key a q ≡ has_key b q) → list_any t a ≡ list_any t b
  any-same t a b same =
      alike (list_any t a) (list_any t b) (any_inside t a b (λ q passes there. sym (same q passes) ∙ there)) (any_inside t b a (λ q passes there. same q passes ∙ there))

module _ {X : Type 0} where
  -- an element that passes
  pub some_passes : (t : X → Bool) (xs : List X) → list_any t xs ≡ true → (x : X) × Contains xs x × (t x ≡ true)
  some_passes t xs h = let found = Any-from_list_any t xs h in (found.1, (found.0, found.2, found.3), found.4)

  pub passes_some : (t : X → Bool) (xs : List X) (x : X) → Contains xs x → t x ≡ true → list_any t xs ≡ true
  passes_some t xs x there passes = list_any-from_Any t xs (there.0, x, there.1, there.2, passes)

  pub any-map : {Y : Type 0} (f : Y → X) (t : X → Bool) (ys : List Y) → list_any t (map f ys) ≡ list_any (λ y. t (f y)) ys
  any-map f t [] = refl
  any-map f t (y ∷ ys) = ap (λ b. t (f y) || b) (any-map f t ys)
