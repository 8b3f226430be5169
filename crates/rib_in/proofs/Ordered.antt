-- What taking out the entries of a key makes of entries in order.
use Rattle.std.proofs.Common.{◌≡◌, Bool, true, false, not, cond, List, [], ◌∷◌, None, Some, refl, sym, ap, ◌∙◌}
use Rattle.std.proofs.lemmas.Cmp.{alike_right}
use Rattle.std.proofs.lemmas.List.Kept.{IsStrictlySortedBy-filter}
use Rattle.std.proofs.lemmas.Map.Entries.{lookup-filter-keys}
use Rattle.std.specs.BTreeMap.{is_at, insert_entry}
use Rattle.std.specs.Cmp.{IsTotalOrder}
use Rattle.std.specs.List.{AllByRecursion, filter}
use Rattle.std.specs.List.Sorted.{IsStrictlySortedBy}
use Rattle.std.specs.Map.{lookup, keys_of}
use Rattle.std.specs.Ordering.{is_eq, match_ordering}
use Rattle.std.specs.declared.cmp.Ordering.{Ordering}
use Rattle.std.specs.declared.cmp.Ordering.TheVariants.{Less, Equal, Greater}
use Rattle.bgp_attr.proofs.EntryLists.{equal_from}

module _ {X : Type 0} where
  negated : (b : Bool) (x y : X) → cond (not b) x y ≡ cond b y x
  negated true x y = refl
  negated false x y = refl

module _ {K X : Type 0} {R : K → K → Ordering} (o : IsTotalOrder R) where
  -- what is taken out isn't
  pub lookup-others : (q k : K) (es : List (K × X)) → lookup (is_at (R q)) (filter (λ e. not (is_at (R k) e.0)) es) ≡ cond (is_at (R k) q) None (lookup (is_at (R q)) es)
  lookup-others q k es =
      lookup-filter-keys (is_at (R q)) (λ x. not (is_at (R k) x)) (not (is_at (R k) q)) (λ x at. ap (λ r. not (is_eq r)) (sym (alike_right o q x k (equal_from (R q x) at)))) es
      ∙ negated (is_at (R k) q) (lookup (is_at (R q)) es) None

  kept_case : (t : K → Bool) (e : K × X) (es : List (K × X)) (b : Bool) → keys_of (filter (λ x. t x.0) es) ≡ filter t (keys_of es)
      → keys_of (cond b (e ∷ filter (λ x. t x.0) es) (filter (λ x. t x.0) es)) ≡ cond b (e.0 ∷ filter t (keys_of es)) (filter t (keys_of es))
  kept_case t e es true more = ap (λ l. e.0 ∷ l) more
  kept_case t e es false more = more

  keys-filter : (t : K → Bool) (es : List (K × X)) → keys_of (filter (λ x. t x.0) es) ≡ filter t (keys_of es)
  keys-filter t [] = refl
  keys-filter t (e ∷ es) = kept_case t e es (t e.0) (keys-filter t es)

  -- some of them rise as all do
  pub sorted-others : (k : K) (es : List (K × X)) → IsStrictlySortedBy R (keys_of es) → IsStrictlySortedBy R (keys_of (filter (λ e. not (is_at (R k) e.0)) es))
  sorted-others k es h = rw (keys-filter (λ x. not (is_at (R k) x)) es) (IsStrictlySortedBy-filter R (λ x. not (is_at (R k) x)) (keys_of es) h)

  none_below : (k l : K) (es : List (K × X)) → R k l ≡ Less → AllByRecursion (λ t. R l t ≡ Less) (keys_of es) → lookup (is_at (R k)) es ≡ None
  none_below k l [] less h = refl
  none_below k l (e ∷ es) less h = rw (o.trans k l e.0 less h.0) (none_below k l es less h.1)

  same_case : (k : K) (v : X) (e : K × X) (es : List (K × X)) (r : Ordering) → R k e.0 ≡ r → AllByRecursion (λ t. R e.0 t ≡ Less) (keys_of es) → cond (is_eq r) (Some e.1) (lookup (is_at (R k)) es) ≡ Some v
      → (lookup (is_at (R k)) es ≡ Some v → insert_entry R es k v ≡ es) → match_ordering r ((k, v) ∷ e ∷ es) ((e.0, v) ∷ es) (e ∷ insert_entry R es k v) ≡ e ∷ es
  same_case k v e es Less is above there more = let none : None ≡ Some v = sym (none_below k e.0 es is above) ∙ there in absurd cc
  same_case k v e es Equal is above there more = let same : e.1 ≡ v = cc in ap (λ x. (e.0, x) ∷ es) (sym same)
  same_case k v e es Greater is above there more = ap (λ l. e ∷ l) (more there)

  -- what is there, put in again, changes nothing
  pub insert-same : (k : K) (v : X) (es : List (K × X)) → IsStrictlySortedBy R (keys_of es) → lookup (is_at (R k)) es ≡ Some v → insert_entry R es k v ≡ es
  unfolding IsStrictlySortedBy
  insert-same k v [] h there = absurd cc
  insert-same k v (e ∷ es) h there = same_case k v e es (R k e.0) refl h.0 there (insert-same k v es h.1)
