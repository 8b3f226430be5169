-- Entries below a prefix and above it, and what a map's calls make of them.
use Rattle.std.proofs.Common.{◌≡◌, ◌<◌, ◌++◌, Bool, true, false, cond, not, List, [], ◌∷◌, None, Some, refl, ap}
use Rattle.std.proofs.lemmas.List.Elements.{filter-append}
use Rattle.std.specs.BTreeMap.{is_at}
use Rattle.std.specs.BTreeSet.{insert_key}
use Rattle.std.specs.List.{filter}
use Rattle.std.specs.Map.{keys_of}
use Rattle.std.specs.Ordering.{match_ordering}
use Rattle.std.specs.declared.cmp.Ordering.{Ordering}
use Rattle.std.specs.declared.cmp.Ordering.TheVariants.{Less, Equal, Greater}
use Rattle.net_prefix.specs.declared.prefix.Prefix.{Prefix}
use Rattle.net_prefix.specs.PrefixOrder.{prefix_cmp}
use Rattle.net_prefix.proofs.PayloadSets.{prefix_cmp_total, sorted-insert_key, sorted-filter}
use Rattle.prefix_trie.specs.Nodes.{EachIs}
use Rattle.prefix_trie.specs.TrieMap.{found, with_entry, without, IsRising}
use Rattle.net_prefix.proofs.Ranks.{rank, cmp_below, cmp_above}

-- the key stands before each entry
abbrev pub AreAbove : {V : Type 0} → Prefix → List (Prefix × V) → Type 0
AreAbove k es = EachIs (λ q. rank k < rank q) es

-- the key stands behind each entry
abbrev pub AreBelow : {V : Type 0} → Prefix → List (Prefix × V) → Type 0
AreBelow k es = EachIs (λ q. rank q < rank k) es

module _ {V : Type 0} where
  pub each_weaker : (P Q : Prefix → Type 0) → ((p : Prefix) → P p → Q p) → (es : List (Prefix × V)) → EachIs P es → EachIs Q es
  each_weaker P Q f [] h = tt
  each_weaker P Q f (e ∷ es) h = (f e.0 h.0, each_weaker P Q f es h.1)

  pub each_append : (P : Prefix → Type 0) (xs ys : List (Prefix × V)) → EachIs P xs → EachIs P ys → EachIs P (xs ++ ys)
  each_append P [] ys h k = k
  each_append P (x ∷ xs) ys h k = (h.0, each_append P xs ys h.1 k)

  pub found_above : (k : Prefix) (ys : List (Prefix × V)) → AreAbove k ys → found ys k ≡ None
  found_above k [] h = refl
  found_above k (y ∷ ys) h = rw (cmp_below k y.0 h.0) (found_above k ys h.1)

  pub found_below : (k : Prefix) (ys : List (Prefix × V)) → AreBelow k ys → found ys k ≡ None
  found_below k [] h = refl
  found_below k (y ∷ ys) h = rw (cmp_above k y.0 h.0) (found_below k ys h.1)

  pub found_low : (k : Prefix) (xs ys : List (Prefix × V)) → AreAbove k ys → found (xs ++ ys) k ≡ found xs k
  found_low k [] ys h = found_above k ys h
  found_low k (x ∷ xs) ys h = ap (cond (is_at (prefix_cmp k) x.0) (Some x.1)) (found_low k xs ys h)

  pub found_high : (k : Prefix) (xs ys : List (Prefix × V)) → AreBelow k xs → found (xs ++ ys) k ≡ found ys k
  found_high k [] ys h = refl
  found_high k (x ∷ xs) ys h = rw (cmp_above k x.0 h.0) (found_high k xs ys h.1)

  pub with_above : (k : Prefix) (v : V) (ys : List (Prefix × V)) → AreAbove k ys → with_entry ys k v ≡ (k, v) ∷ ys
  with_above k v [] h = refl
  with_above k v (y ∷ ys) h = rw (cmp_below k y.0 h.0) refl

  with_case : (k : Prefix) (v : V) (x : Prefix × V) (xs ys : List (Prefix × V)) (r : Ordering) → with_entry (xs ++ ys) k v ≡ with_entry xs k v ++ ys
      → match_ordering r ((k, v) ∷ x ∷ (xs ++ ys)) ((x.0, v) ∷ (xs ++ ys)) (x ∷ with_entry (xs ++ ys) k v) ≡ match_ordering r ((k, v) ∷ x ∷ xs) ((x.0, v) ∷ xs) (x ∷ with_entry xs k v) ++ ys
  with_case k v x xs ys Less e = refl
  with_case k v x xs ys Equal e = refl
  with_case k v x xs ys Greater e = ap (λ l. x ∷ l) e

  pub with_low : (k : Prefix) (v : V) (xs ys : List (Prefix × V)) → AreAbove k ys → with_entry (xs ++ ys) k v ≡ with_entry xs k v ++ ys
  with_low k v [] ys h = with_above k v ys h
  with_low k v (x ∷ xs) ys h = with_case k v x xs ys (prefix_cmp k x.0) (with_low k v xs ys h)

  pub with_high : (k : Prefix) (v : V) (xs ys : List (Prefix × V)) → AreBelow k xs → with_entry (xs ++ ys) k v ≡ xs ++ with_entry ys k v
  with_high k v [] ys h = refl
  with_high k v (x ∷ xs) ys h = rw (cmp_above k x.0 h.0) (ap (λ l. x ∷ l) (with_high k v xs ys h.1))

  pub without_above : (k : Prefix) (ys : List (Prefix × V)) → AreAbove k ys → without ys k ≡ ys
  without_above k [] h = refl
  without_above k (y ∷ ys) h = rw (cmp_below k y.0 h.0) (ap (λ l. y ∷ l) (without_above k ys h.1))

  pub without_below : (k : Prefix) (ys : List (Prefix × V)) → AreBelow k ys → without ys k ≡ ys
  without_below k [] h = refl
  without_below k (y ∷ ys) h = rw (cmp_above k y.0 h.0) (ap (λ l. y ∷ l) (without_below k ys h.1))

  pub without_append : (k : Prefix) (xs ys : List (Prefix × V)) → without (xs ++ ys) k ≡ without xs k ++ without ys k
  without_append k xs ys = filter-append (λ e. not (is_at (prefix_cmp k) e.0)) xs ys

  keys_case : (k : Prefix) (v : V) (x : Prefix × V) (xs : List (Prefix × V)) (r : Ordering) → keys_of (with_entry xs k v) ≡ insert_key prefix_cmp (keys_of xs) k
      → keys_of (match_ordering r ((k, v) ∷ x ∷ xs) ((x.0, v) ∷ xs) (x ∷ with_entry xs k v)) ≡ match_ordering r (k ∷ x.0 ∷ keys_of xs) (x.0 ∷ keys_of xs) (x.0 ∷ insert_key prefix_cmp (keys_of xs) k)
  keys_case k v x xs Less e = refl
  keys_case k v x xs Equal e = refl
  keys_case k v x xs Greater e = ap (λ l. x.0 ∷ l) e

  keys_with : (k : Prefix) (v : V) (xs : List (Prefix × V)) → keys_of (with_entry xs k v) ≡ insert_key prefix_cmp (keys_of xs) k
  keys_with k v [] = refl
  keys_with k v (x ∷ xs) = keys_case k v x xs (prefix_cmp k x.0) (keys_with k v xs)

  -- with an entry more they rise as before
  pub rising_with : (k : Prefix) (v : V) (xs : List (Prefix × V)) → IsRising xs → IsRising (with_entry xs k v)
  rising_with k v xs h = rw (keys_with k v xs) (sorted-insert_key prefix_cmp_total (keys_of xs) k h)

  kept_case : (t : Prefix → Bool) (x : Prefix × V) (xs : List (Prefix × V)) (b : Bool) → keys_of (filter (λ e. t e.0) xs) ≡ filter t (keys_of xs)
      → keys_of (cond b (x ∷ filter (λ e. t e.0) xs) (filter (λ e. t e.0) xs)) ≡ cond b (x.0 ∷ filter t (keys_of xs)) (filter t (keys_of xs))
  kept_case t x xs true e = ap (λ l. x.0 ∷ l) e
  kept_case t x xs false e = e

  keys_kept : (t : Prefix → Bool) (xs : List (Prefix × V)) → keys_of (filter (λ e. t e.0) xs) ≡ filter t (keys_of xs)
  keys_kept t [] = refl
  keys_kept t (x ∷ xs) = kept_case t x xs (t x.0) (keys_kept t xs)

  pub rising_without : (k : Prefix) (xs : List (Prefix × V)) → IsRising xs → IsRising (without xs k)
  rising_without k xs h = rw (keys_kept (λ p. not (is_at (prefix_cmp k) p)) xs) (sorted-filter prefix_cmp_total (λ p. not (is_at (prefix_cmp k) p)) (keys_of xs) h)

  each_with_case : (P : Prefix → Type 0) (k : Prefix) (v : V) (x : Prefix × V) (xs : List (Prefix × V)) (r : Ordering) → P k → EachIs P (x ∷ xs) → EachIs P (with_entry xs k v)
      → EachIs P (match_ordering r ((k, v) ∷ x ∷ xs) ((x.0, v) ∷ xs) (x ∷ with_entry xs k v))
  each_with_case P k v x xs Less p h more = (p, h)
  each_with_case P k v x xs Equal p h more = h
  each_with_case P k v x xs Greater p h more = (h.0, more)

  pub each_with : (P : Prefix → Type 0) (k : Prefix) (v : V) (xs : List (Prefix × V)) → P k → EachIs P xs → EachIs P (with_entry xs k v)
  each_with P k v [] p h = (p, tt)
  each_with P k v (x ∷ xs) p h = each_with_case P k v x xs (prefix_cmp k x.0) p h (each_with P k v xs p h.1)

  each_kept_case : (P : Prefix → Type 0) (x : Prefix × V) (ys : List (Prefix × V)) (b : Bool) → P x.0 → EachIs P ys → EachIs P (cond b (x ∷ ys) ys)
  each_kept_case P x ys true p h = (p, h)
  each_kept_case P x ys false p h = h

  pub each_kept : (P : Prefix → Type 0) (t : Prefix × V → Bool) (xs : List (Prefix × V)) → EachIs P xs → EachIs P (filter t xs)
  each_kept P t [] h = tt
  each_kept P t (x ∷ xs) h = each_kept_case P x (filter t xs) (t x) h.0 (each_kept P t xs h.1)
