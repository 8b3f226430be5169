use Rattle.std.proofs.Common.{◌≡◌, ◌≤◌, ◌<◌, Bool, true, false, cond, suc, List, [], ◌∷◌, length, Some, arith, refl, ap, ◌∙◌}
use Rattle.std.proofs.lemmas.Cmp.{alike_right}
use Rattle.std.specs.BTreeMap.{is_at, insert_entry}
use Rattle.std.specs.BTreeSet.{insert_key}
use Rattle.std.specs.Cmp.{IsTotalOrder}
use Rattle.std.specs.List.Sorted.{IsStrictlySortedBy}
use Rattle.std.specs.Map.{lookup, keys_of}
use Rattle.std.specs.Ordering.{is_eq, match_ordering, ordering_reverse}
use Rattle.std.specs.declared.cmp.Ordering.{Ordering}
use Rattle.std.specs.declared.cmp.Ordering.TheVariants.{Less, Equal, Greater}
use Rattle.net_prefix.proofs.PayloadSets.{sorted-insert_key}

-- What putting an entry in its place makes of entries in order.

pub equal_from : (r : Ordering) → is_eq r ≡ true → r ≡ Equal
equal_from Less h = absurd cc
equal_from Equal h = refl
equal_from Greater h = absurd cc

is_eq-reverse : (r : Ordering) → is_eq (ordering_reverse r) ≡ is_eq r
is_eq-reverse Less = refl
is_eq-reverse Equal = refl
is_eq-reverse Greater = refl

module _ {X : Type 0} where
  twice : (b : Bool) (x y z : X) → cond b x z ≡ cond b x (cond b y z)
  twice true x y z = refl
  twice false x y z = refl

  swapped : (b c : Bool) (x y z : X) → (b ≡ true → c ≡ true → ⊥) → cond c y (cond b x z) ≡ cond b x (cond c y z)
  swapped true true x y z apart = absurd (apart refl refl)
  swapped true false x y z apart = refl
  swapped false c x y z apart = refl

module _ {K : Type 0} {R : K → K → Ordering} (o : IsTotalOrder R) where
  -- a key is at another where that is at it
  pub is_at-sym : (p q : K) → is_at (R p) q ≡ is_at (R q) p
  is_at-sym p q = ap is_eq (o.antisymm p q) ∙ is_eq-reverse (R q p)

module _ {K X : Type 0} {R : K → K → Ordering} (o : IsTotalOrder R) where
  put_case : (q k : K) (v : X) (e : K × X) (es : List (K × X)) (r : Ordering) → R k e.0 ≡ r
      → lookup (is_at (R q)) (insert_entry R es k v) ≡ cond (is_at (R q) k) (Some v) (lookup (is_at (R q)) es)
      → lookup (is_at (R q)) (match_ordering r ((k, v) ∷ e ∷ es) ((e.0, v) ∷ es) (e ∷ insert_entry R es k v)) ≡ cond (is_at (R q) k) (Some v) (cond (is_at (R q) e.0) (Some e.1) (lookup (is_at (R q)) es))
  put_case q k v e es Less is more = refl
  put_case q k v e es Equal is more =
      let same : is_at (R q) k ≡ is_at (R q) e.0 = ap is_eq (alike_right o k e.0 q is) in
      rw same (twice (is_at (R q) e.0) (Some v) (Some e.1) (lookup (is_at (R q)) es))
  put_case q k v e es Greater is more =
      ap (cond (is_at (R q) e.0) (Some e.1)) more
      ∙ swapped (is_at (R q) k) (is_at (R q) e.0) (Some v) (Some e.1) (lookup (is_at (R q)) es) (λ at there.
      let first : R q k ≡ Equal = equal_from (R q k) at in
      let second : R q e.0 ≡ Equal = equal_from (R q e.0) there in
      let both : R q e.0 ≡ R k e.0 = o.congr q k e.0 first in
      cc)

  put_at : (q k : K) (v : X) (es : List (K × X)) → lookup (is_at (R q)) (insert_entry R es k v) ≡ cond (is_at (R q) k) (Some v) (lookup (is_at (R q)) es)
  put_at q k v [] = refl
  put_at q k v (e ∷ es) = put_case q k v e es (R k e.0) refl (put_at q k v es)

  -- what is put at a key is found there
  pub lookup-insert_entry : (q k : K) (v : X) (es : List (K × X)) → lookup (is_at (R q)) (insert_entry R es k v) ≡ cond (is_at (R k) q) (Some v) (lookup (is_at (R q)) es)
  lookup-insert_entry q k v es = put_at q k v es ∙ ap (λ b. cond b (Some v) (lookup (is_at (R q)) es)) (is_at-sym o q k)

  keys_case : (k : K) (v : X) (e : K × X) (es : List (K × X)) (r : Ordering) → keys_of (insert_entry R es k v) ≡ insert_key R (keys_of es) k
      → keys_of (match_ordering r ((k, v) ∷ e ∷ es) ((e.0, v) ∷ es) (e ∷ insert_entry R es k v)) ≡ match_ordering r (k ∷ e.0 ∷ keys_of es) (e.0 ∷ keys_of es) (e.0 ∷ insert_key R (keys_of es) k)
  keys_case k v e es Less more = refl
  keys_case k v e es Equal more = refl
  keys_case k v e es Greater more = ap (λ l. e.0 ∷ l) more

  keys-insert_entry : (k : K) (v : X) (es : List (K × X)) → keys_of (insert_entry R es k v) ≡ insert_key R (keys_of es) k
  keys-insert_entry k v [] = refl
  keys-insert_entry k v (e ∷ es) = keys_case k v e es (R k e.0) (keys-insert_entry k v es)

  -- with an entry more they rise as before
  pub sorted-insert_entry : (k : K) (v : X) (es : List (K × X)) → IsStrictlySortedBy R (keys_of es) → IsStrictlySortedBy R (keys_of (insert_entry R es k v))
  sorted-insert_entry k v es h = rw (keys-insert_entry k v es) (sorted-insert_key o (keys_of es) k h)

  -- and are no fewer
  length_case : (k : K) (v : X) (e : K × X) (es : List (K × X)) (r : Ordering) → length es ≤ length (insert_entry R es k v)
      → suc (length es) ≤ length (match_ordering r ((k, v) ∷ e ∷ es) ((e.0, v) ∷ es) (e ∷ insert_entry R es k v))
  length_case k v e es Less more = omega arith
  length_case k v e es Equal more = omega arith
  length_case k v e es Greater more = omega (arith, more)

  pub length-insert_entry : (k : K) (v : X) (es : List (K × X)) → length es ≤ length (insert_entry R es k v)
  length-insert_entry k v [] = omega arith
  length-insert_entry k v (e ∷ es) = length_case k v e es (R k e.0) (length-insert_entry k v es)

  some_case : (k : K) (v : X) (e : K × X) (es : List (K × X)) (r : Ordering) → 0 < length (match_ordering r ((k, v) ∷ e ∷ es) ((e.0, v) ∷ es) (e ∷ insert_entry R es k v))
  some_case k v e es Less = omega arith
  some_case k v e es Equal = omega arith
  some_case k v e es Greater = omega arith

  pub some-insert_entry : (k : K) (v : X) (es : List (K × X)) → 0 < length (insert_entry R es k v)
  some-insert_entry k v [] = omega arith
  some-insert_entry k v (e ∷ es) = some_case k v e es (R k e.0)
