-- Laws of the order of payloads, and of their sets.
use std.HLevel.{prop→path_p}
use Rattle.std.proofs.Common.{◌≡◌, ◌≤◌, ◌&&◌, ◌||◌, ℕ, Bool, true, false, not, cond, List, [], ◌∷◌, refl, sym, ap, ◌∙◌, arith}
use Rattle.std.proofs.Props.{props}
use Rattle.std.proofs.lemmas.Bool.Decides.{nat_tests}
use Rattle.std.proofs.lemmas.Map.Lookups.{btree_set_from_contains}
use Rattle.std.proofs.lemmas.Cmp.{nat_cmp_total, on_total, then_total, alike_right}
use Rattle.std.specs.BTreeMap.{is_at}
use Rattle.std.specs.BTreeSet.{insert_key}
use Rattle.std.specs.Cmp.{IsTotalOrder}
use Rattle.std.specs.List.{AllByRecursion, list_any, filter}
use Rattle.std.specs.List.Sorted.{IsStrictlySortedBy}
use Rattle.std.specs.Ordering.{nat_cmp, ordering_then, is_eq, match_ordering}
use Rattle.std.specs.Set.{remove_key}
use Rattle.std.specs.declared.cmp.Ordering.{Ordering}
use Rattle.std.specs.declared.cmp.Ordering.TheVariants.{Less, Equal, Greater}
use Rattle.net_prefix.specs.declared.prefix.Prefix.{Prefix}
use Rattle.net_prefix.specs.declared.payload.Vrp.{Vrp}
use Rattle.net_prefix.specs.PrefixOrder.{prefix_cmp}
use Rattle.net_prefix.specs.PayloadOrder.{payload_cmp}
use Rattle.net_prefix.specs.PayloadSets.{IsPayloadSet, has, put, out}
use Rattle.net_prefix.proofs.Prefixes.{same_prefix}

-- the order of prefixes is a total order
pub prefix_cmp_total : IsTotalOrder prefix_cmp
prefix_cmp_total = then_total (on_total (λ (p : Prefix). p.bits) nat_cmp_total) (on_total (λ (p : Prefix). p.len) nat_cmp_total)

-- the order of payloads is a total order
pub payload_cmp_total : IsTotalOrder payload_cmp
payload_cmp_total =
    then_total (on_total (λ (v : Vrp). v.prefix) prefix_cmp_total)
    (then_total (on_total (λ (v : Vrp). v.max_len) nat_cmp_total) (on_total (λ (v : Vrp). v.asn.0) nat_cmp_total))

equal_parts : (o p : Ordering) → ordering_then o p ≡ Equal → (o ≡ Equal) × (p ≡ Equal)
equal_parts Less p h = absurd cc
equal_parts Equal p h = (refl, h)
equal_parts Greater p h = absurd cc

same_number : (a b : ℕ) → nat_cmp a b ≡ Equal → a ≡ b
same_number a b h = grind (arith, nat_tests)

-- prefixes at one place of the order are one
pub prefix_cmp_exact : (p q : Prefix) → prefix_cmp p q ≡ Equal → p ≡ q
prefix_cmp_exact p q h =
    let parts = equal_parts (nat_cmp p.bits q.bits) (nat_cmp p.len q.len) h in
    same_prefix p q (same_number p.bits q.bits parts.0) (same_number p.len q.len parts.1)

-- payloads of one prefix, one maximum length and one AS are one
pub same_payload : (a b : Vrp) → a.prefix ≡ b.prefix → a.max_len ≡ b.max_len → a.asn.0 ≡ b.asn.0 → a ≡ b
same_payload a b prefix max_len asn = λ i. record {
  prefix = prefix i;
  max_len = max_len i;
  asn = record { 0 = asn i };
  reaches = prop→path_p (λ j. (prefix j).len ≤ max_len j) (hlevel props) a.reaches b.reaches i;
  short = prop→path_p (λ j. max_len j ≤ 32) (hlevel props) a.short b.short i;
}

-- payloads at one place of the order are one
pub payload_cmp_exact : (a b : Vrp) → payload_cmp a b ≡ Equal → a ≡ b
payload_cmp_exact a b h =
    let parts = equal_parts (prefix_cmp a.prefix b.prefix) (ordering_then (nat_cmp a.max_len b.max_len) (nat_cmp a.asn.0 b.asn.0)) h in
    let rest = equal_parts (nat_cmp a.max_len b.max_len) (nat_cmp a.asn.0 b.asn.0) parts.1 in
    same_payload a b (prefix_cmp_exact a.prefix b.prefix parts.0) (same_number a.max_len b.max_len rest.0) (same_number a.asn.0 b.asn.0 rest.1)

module _ {K : Type 0} {R : K → K → Ordering} (o : IsTotalOrder R) where
  abbrev Below : K → List K → Type 0
  Below x xs = AllByRecursion (λ y. R x y ≡ Less) xs

  twice : (b d : Bool) → (b || d) ≡ (b || (b || d))
  twice true d = refl
  twice false d = refl

  joined : (b c d : Bool) → (b || (c || d)) ≡ (c || (b || d))
  joined true true d = refl
  joined true false d = refl
  joined false c d = refl

  any_case : (p q x : K) (xs : List K) (r : Ordering) → R p x ≡ r
      → list_any (is_at (R q)) (insert_key R xs p) ≡ (is_at (R q) p || list_any (is_at (R q)) xs)
      → list_any (is_at (R q)) (match_ordering r (p ∷ x ∷ xs) (x ∷ xs) (x ∷ insert_key R xs p)) ≡ (is_at (R q) p || (is_at (R q) x || list_any (is_at (R q)) xs))
  any_case p q x xs Less e more = refl
  any_case p q x xs Equal e more =
      let same : is_at (R q) p ≡ is_at (R q) x = ap is_eq (alike_right o p x q e) in
      rw same (twice (is_at (R q) x) (list_any (is_at (R q)) xs))
  any_case p q x xs Greater e more = rw more (joined (is_at (R q) x) (is_at (R q) p) (list_any (is_at (R q)) xs))

  -- a list of keys with one put at its place has that key and those before
  pub any-insert_key : (set : List K) (p q : K) → list_any (is_at (R q)) (insert_key R set p) ≡ (is_at (R q) p || list_any (is_at (R q)) set)
  any-insert_key [] p q = refl
  any-insert_key (x ∷ xs) p q = any_case p q x xs (R p x) refl (any-insert_key xs p q)

  below_case : (x p y : K) (ys : List K) (r : Ordering) → R x p ≡ Less → Below x (y ∷ ys) → Below x (insert_key R ys p) → Below x (match_ordering r (p ∷ y ∷ ys) (y ∷ ys) (y ∷ insert_key R ys p))
  below_case x p y ys Less first h more = (first, h)
  below_case x p y ys Equal first h more = h
  below_case x p y ys Greater first h more = (h.0, more)

  below_insert : (x p : K) (xs : List K) → R x p ≡ Less → Below x xs → Below x (insert_key R xs p)
  below_insert x p [] first h = (first, tt)
  below_insert x p (y ∷ ys) first h = below_case x p y ys (R p y) first h (below_insert x p ys first h.1)

  below_all : (p x : K) (xs : List K) → R p x ≡ Less → Below x xs → Below p xs
  below_all p x [] e h = tt
  below_all p x (y ∷ ys) e h = (o.trans p x y e h.0, below_all p x ys e h.1)

  above : (p x : K) → R p x ≡ Greater → R x p ≡ Less
  above p x e = o.antisymm x p ∙ rw e refl

  sorted_case : (p x : K) (xs : List K) (r : Ordering) → R p x ≡ r → Below x xs → IsStrictlySortedBy R xs → IsStrictlySortedBy R (insert_key R xs p)
      → IsStrictlySortedBy R (match_ordering r (p ∷ x ∷ xs) (x ∷ xs) (x ∷ insert_key R xs p))
  unfolding IsStrictlySortedBy
  sorted_case p x xs Less e below h more = ((e, below_all p x xs e below), (below, h))
  sorted_case p x xs Equal e below h more = (below, h)
  sorted_case p x xs Greater e below h more = (below_insert x p xs (above p x e) below, more)

  -- a list of rising keys with one put at its place rises
  pub sorted-insert_key : (set : List K) (p : K) → IsStrictlySortedBy R set → IsStrictlySortedBy R (insert_key R set p)
  unfolding IsStrictlySortedBy
  sorted-insert_key [] p h = (tt, tt)
  sorted-insert_key (x ∷ xs) p h = sorted_case p x xs (R p x) refl h.0 h.1 (sorted-insert_key xs p h.1)

  below_kept : (x y : K) (test : K → Bool) (ys : List K) (b : Bool) → R x y ≡ Less → Below x (filter test ys) → Below x (cond b (y ∷ filter test ys) (filter test ys))
  below_kept x y test ys true first more = (first, more)
  below_kept x y test ys false first more = more

  below_filter : (x : K) (test : K → Bool) (xs : List K) → Below x xs → Below x (filter test xs)
  below_filter x test [] h = tt
  below_filter x test (y ∷ ys) h = below_kept x y test ys (test y) h.0 (below_filter x test ys h.1)

  sorted_kept : (test : K → Bool) (x : K) (xs : List K) (b : Bool) → Below x xs → IsStrictlySortedBy R (filter test xs) → IsStrictlySortedBy R (cond b (x ∷ filter test xs) (filter test xs))
  unfolding IsStrictlySortedBy
  sorted_kept test x xs true below more = (below_filter x test xs below, more)
  sorted_kept test x xs false below more = more

  -- some of a list of rising keys rise
  pub sorted-filter : (test : K → Bool) (set : List K) → IsStrictlySortedBy R set → IsStrictlySortedBy R (filter test set)
  unfolding IsStrictlySortedBy
  sorted-filter test [] h = tt
  sorted-filter test (x ∷ xs) h = sorted_kept test x xs (test x) h.0 (sorted-filter test xs h.1)

  nothing : (b : Bool) → false ≡ (b && false)
  nothing true = refl
  nothing false = refl

  some_case : (test : K → Bool) (q x : K) (xs : List K) (b : Bool) (r : Ordering) → (r ≡ Equal → b ≡ test q) → R q x ≡ r
      → list_any (is_at (R q)) (filter test xs) ≡ (test q && list_any (is_at (R q)) xs)
      → list_any (is_at (R q)) (cond b (x ∷ filter test xs) (filter test xs)) ≡ (test q && (is_eq r || list_any (is_at (R q)) xs))
  some_case test q x xs true Less alike e more = rw e more
  some_case test q x xs true Equal alike e more = rw (e, sym (alike refl)) refl
  some_case test q x xs true Greater alike e more = rw e more
  some_case test q x xs false Less alike e more = more
  some_case test q x xs false Equal alike e more = rw (more, sym (alike refl)) refl
  some_case test q x xs false Greater alike e more = more

  -- some of a list's keys, where equal keys are alike
  pub any-filter : (test : K → Bool) (q : K) → ((x : K) → R q x ≡ Equal → test x ≡ test q) → (set : List K) → list_any (is_at (R q)) (filter test set) ≡ (test q && list_any (is_at (R q)) set)
  any-filter test q alike [] = nothing (test q)
  any-filter test q alike (x ∷ xs) = some_case test q x xs (test x) (R q x) (alike x) refl (any-filter test q alike xs)

  kept_above : (p x : K) (xs : List K) → R p x ≡ Equal → Below x xs → xs ≡ filter (λ k. not (is_at (R p) k)) xs
  kept_above p x [] e h = refl
  kept_above p x (y ∷ ys) e h =
      let less : R p y ≡ Less = o.congr p x y e ∙ h.0 in
      rw less (ap (λ l. y ∷ l) (kept_above p x ys e h.1))

  removed_case : (p x : K) (xs : List K) (r : Ordering) → R p x ≡ r → Below x xs → remove_key (is_at (R p)) xs ≡ filter (λ k. not (is_at (R p) k)) xs
      → cond (is_eq r) xs (x ∷ remove_key (is_at (R p)) xs) ≡ cond (not (is_eq r)) (x ∷ filter (λ k. not (is_at (R p) k)) xs) (filter (λ k. not (is_at (R p) k)) xs)
  removed_case p x xs Less e below more = ap (λ l. x ∷ l) more
  removed_case p x xs Equal e below more = kept_above p x xs e below
  removed_case p x xs Greater e below more = ap (λ l. x ∷ l) more

  -- of rising keys, those without the first that is at a place are those without all that are
  pub remove_key-filter : (p : K) (set : List K) → IsStrictlySortedBy R set → remove_key (is_at (R p)) set ≡ filter (λ k. not (is_at (R p) k)) set
  unfolding IsStrictlySortedBy
  remove_key-filter p [] h = refl
  remove_key-filter p (x ∷ xs) h = removed_case p x xs (R p x) refl h.0 (remove_key-filter p xs h.1)

-- the set with a payload has it, and has what it had
pub has-put : (set : List Vrp) (payload other : Vrp) → has (put payload set) other ≡ (is_at (payload_cmp other) payload || has set other)
has-put set payload other = any-insert_key payload_cmp_total set payload other

-- the set with a payload is a set
pub put-is_set : (set : List Vrp) (payload : Vrp) → IsPayloadSet set → IsPayloadSet (put payload set)
put-is_set set payload h = sorted-insert_key payload_cmp_total set payload h

-- the set without a payload is a set
pub out-is_set : (set : List Vrp) (payload : Vrp) → IsPayloadSet set → IsPayloadSet (out payload set)
out-is_set set payload h = sorted-filter payload_cmp_total (λ member. not (is_at (payload_cmp payload) member)) set h

-- the set without a payload has what it had, but for the payload
pub has-out : (set : List Vrp) (payload other : Vrp) → has (out payload set) other ≡ (not (is_at (payload_cmp payload) other) && has set other)
has-out set payload other =
    any-filter payload_cmp_total (λ member. not (is_at (payload_cmp payload) member)) other
    (λ x e. ap (λ r. not (is_eq r)) (sym (alike_right payload_cmp_total other x payload e))) set

-- what the removal of a payload from a set leaves is the set without it
pub remove_key-out : (set : List Vrp) (payload : Vrp) → IsPayloadSet set → remove_key (is_at (payload_cmp payload)) set ≡ out payload set
remove_key-out set payload h = remove_key-filter payload_cmp_total payload set h

-- sets that have the same payloads are one
pub same_set : (a b : List Vrp) → IsPayloadSet a → IsPayloadSet b → ((payload : Vrp) → has a payload ≡ has b payload) → a ≡ b
same_set a b rising_a rising_b same =
    btree_set_from_contains payload_cmp_total (record { keys = a }) (record { keys = b }) rising_a rising_b same payload_cmp_exact
