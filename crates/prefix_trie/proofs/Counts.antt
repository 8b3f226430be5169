-- How many entries there are.
use Rattle.std.proofs.Common.{◌≡◌, ℕ, suc, ◌+◌, ◌-◌, ◌^◌, ◌<◌, ◌≤◌, Bool, true, false, cond, not, List, [], ◌∷◌, length, is_some, Option, None, Some, refl, sym, ap, ◌∙◌, arith}
use Rattle.std.specs.List.{AllByRecursion}
use Rattle.std.specs.List.Sorted.{IsStrictlySortedBy}
use Rattle.std.specs.Map.{keys_of}
use Rattle.std.specs.Ordering.{match_ordering, is_eq}
use Rattle.std.specs.declared.cmp.Ordering.{Ordering}
use Rattle.std.specs.declared.cmp.Ordering.TheVariants.{Less, Equal, Greater}
use Rattle.net_prefix.specs.declared.prefix.Prefix.{Prefix}
use Rattle.net_prefix.specs.PrefixOrder.{prefix_cmp}
use Rattle.net_prefix.proofs.PayloadSets.{prefix_cmp_total}
use Rattle.prefix_trie.specs.Nodes.{EachIs}
use Rattle.prefix_trie.specs.TrieMap.{IsCounted, IsRising, Updates, found, with_entry, without}
use Rattle.prefix_trie.proofs.EntryLists.{each_kept, each_with, rising_with, rising_without}
use Rattle.net_prefix.proofs.Ranks.{rank, less_rank}

module _ {V : Type 0} where
  abbrev Behind : Prefix → List (Prefix × V) → Type 0
  Behind k es = AllByRecursion (λ y. prefix_cmp k y ≡ Less) (keys_of es)

  behind_all : (k x : Prefix) (es : List (Prefix × V)) → prefix_cmp k x ≡ Less → Behind x es → Behind k es
  behind_all k x [] e h = tt
  behind_all k x (y ∷ es) e h = (prefix_cmp_total.trans k x y.0 e h.0, behind_all k x es e h.1)

  behind_same : (k x : Prefix) (es : List (Prefix × V)) → prefix_cmp k x ≡ Equal → Behind x es → Behind k es
  behind_same k x [] e h = tt
  behind_same k x (y ∷ es) e h = (prefix_cmp_total.congr k x y.0 e ∙ h.0, behind_same k x es e h.1)

  found_behind : (k : Prefix) (es : List (Prefix × V)) → Behind k es → found es k ≡ None
  found_behind k [] h = refl
  found_behind k (y ∷ es) h = rw h.0 (found_behind k es h.1)

  without_behind : (k : Prefix) (es : List (Prefix × V)) → Behind k es → without es k ≡ es
  without_behind k [] h = refl
  without_behind k (y ∷ es) h = rw h.0 (ap (λ l. y ∷ l) (without_behind k es h.1))

  more_case : (k : Prefix) (v : V) (x : Prefix × V) (es : List (Prefix × V)) (r : Ordering) → (found es k ≡ None → length (with_entry es k v) ≡ length es + 1) → cond (is_eq r) (Some x.1) (found es k) ≡ None
      → length (match_ordering r ((k, v) ∷ x ∷ es) ((x.0, v) ∷ es) (x ∷ with_entry es k v)) ≡ suc (length es) + 1
  more_case k v x es Less more h = omega arith
  more_case k v x es Equal more h = absurd cc
  more_case k v x es Greater more h = omega (arith, more h)

  -- one more, where the prefix had none
  pub length_more : (k : Prefix) (v : V) (es : List (Prefix × V)) → found es k ≡ None → length (with_entry es k v) ≡ length es + 1
  length_more k v [] h = refl
  length_more k v (x ∷ es) h = more_case k v x es (prefix_cmp k x.0) (length_more k v es) h

  -- as many, where it had one
  same_case : (k : Prefix) (v w : V) (x : Prefix × V) (es : List (Prefix × V)) (r : Ordering) → prefix_cmp k x.0 ≡ r → Behind x.0 es → (found es k ≡ Some w → length (with_entry es k v) ≡ length es) → cond (is_eq r) (Some x.1) (found es k) ≡ Some w
      → length (match_ordering r ((k, v) ∷ x ∷ es) ((x.0, v) ∷ es) (x ∷ with_entry es k v)) ≡ suc (length es)
  same_case k v w x es Less e behind more h = let none = found_behind k es (behind_all k x.0 es e behind) in absurd cc
  same_case k v w x es Equal e behind more h = refl
  same_case k v w x es Greater e behind more h = ap (λ n. suc n) (more h)

  pub length_same : (k : Prefix) (v w : V) (es : List (Prefix × V)) → IsRising es → found es k ≡ Some w → length (with_entry es k v) ≡ length es
  unfolding IsStrictlySortedBy
  length_same k v w [] rising h = absurd cc
  length_same k v w (x ∷ es) rising h = same_case k v w x es (prefix_cmp k x.0) refl rising.0 (length_same k v w es rising.1) h

  -- one less
  less_case : (k : Prefix) (w : V) (x : Prefix × V) (es : List (Prefix × V)) (r : Ordering) → prefix_cmp k x.0 ≡ r → Behind x.0 es → (found es k ≡ Some w → length (without es k) + 1 ≡ length es) → cond (is_eq r) (Some x.1) (found es k) ≡ Some w
      → length (cond (not (is_eq r)) (x ∷ without es k) (without es k)) + 1 ≡ suc (length es)
  less_case k w x es Less e behind more h = omega (arith, more h)
  less_case k w x es Equal e behind more h = rw (without_behind k es (behind_same k x.0 es e behind)) (omega arith)
  less_case k w x es Greater e behind more h = omega (arith, more h)

  pub length_less : (k : Prefix) (w : V) (es : List (Prefix × V)) → IsRising es → found es k ≡ Some w → length (without es k) + 1 ≡ length es
  unfolding IsStrictlySortedBy
  length_less k w [] rising h = absurd cc
  length_less k w (x ∷ es) rising h = less_case k w x es (prefix_cmp k x.0) refl rising.0 (length_less k w es rising.1) h

  none_case : (k : Prefix) (x : Prefix × V) (es : List (Prefix × V)) (r : Ordering) → (found es k ≡ None → without es k ≡ es) → cond (is_eq r) (Some x.1) (found es k) ≡ None → cond (not (is_eq r)) (x ∷ without es k) (without es k) ≡ x ∷ es
  none_case k x es Less more h = ap (λ l. x ∷ l) (more h)
  none_case k x es Equal more h = absurd cc
  none_case k x es Greater more h = ap (λ l. x ∷ l) (more h)

  -- nothing changes where there is nothing to take out
  pub without_none : (k : Prefix) (es : List (Prefix × V)) → found es k ≡ None → without es k ≡ es
  without_none k [] h = refl
  without_none k (x ∷ es) h = none_case k x es (prefix_cmp k x.0) (without_none k es) h

  bounded : (k : Prefix) (es : List (Prefix × V)) → k.bits < 2 ^ 32 → Behind k es → IsRising es → EachIs (λ p. p.bits < 2 ^ 32) es → length es + rank k ≤ 2 ^ 38
  unfolding IsStrictlySortedBy
  bounded k [] small behind rising h = let short = k.short in omega arith
  bounded k (x ∷ es) small behind rising h = let above = less_rank k x.0 behind.0 in omega (arith, bounded x.0 es h.0 rising.0 rising.1 h.1)

  -- there are no more entries than prefixes
  pub few : (es : List (Prefix × V)) → IsRising es → EachIs (λ p. p.bits < 2 ^ 32) es → length es ≤ 2 ^ 38 + 1
  unfolding IsStrictlySortedBy
  few [] rising h = omega arith
  few (x ∷ es) rising h = omega (arith, bounded x.0 es h.0 rising.0 rising.1 h.1)

  -- what a change makes of a map and its count
  pub counted_more : (count : ℕ) (k : Prefix) (v : V) (es : List (Prefix × V)) → k.bits < 2 ^ 32 → found es k ≡ None → IsCounted count es → IsCounted (count + 1) (with_entry es k v)
  counted_more count k v es small none h = record {
    count_is = ap (λ n. n + 1) h.count_is ∙ sym (length_more k v es none);
    rising = rising_with k v es h.rising;
    addresses = each_with (λ p. p.bits < 2 ^ 32) k v es small h.addresses;
  }

  pub counted_same : (count : ℕ) (k : Prefix) (v w : V) (es : List (Prefix × V)) → k.bits < 2 ^ 32 → found es k ≡ Some w → IsCounted count es → IsCounted count (with_entry es k v)
  counted_same count k v w es small some h = record {
    count_is = h.count_is ∙ sym (length_same k v w es h.rising some);
    rising = rising_with k v es h.rising;
    addresses = each_with (λ p. p.bits < 2 ^ 32) k v es small h.addresses;
  }

  pub counted_less : (count : ℕ) (k : Prefix) (w : V) (es : List (Prefix × V)) → found es k ≡ Some w → IsCounted count es → IsCounted (count - 1) (without es k)
  counted_less count k w es some h =
      let less = length_less k w es h.rising some in
      let is = h.count_is in
      record {
        count_is = omega arith;
        rising = rising_without k es h.rising;
        addresses = each_kept (λ p. p.bits < 2 ^ 32) _ es h.addresses;
      }

  pub counted_none : (count : ℕ) (k : Prefix) (es : List (Prefix × V)) → found es k ≡ None → IsCounted count es → IsCounted count (without es k)
  counted_none count k es none h = rw (without_none k es none) h

  pub counted_at : (count : ℕ) (k : Prefix) (es : List (Prefix × V)) (r : Option V) (b : Bool) → found es k ≡ r → is_some r ≡ b → IsCounted count es → IsCounted (cond b (count - 1) count) (without es k)
  counted_at count k es None true is some h = absurd cc
  counted_at count k es None false is some h = counted_none count k es is h
  counted_at count k es (Some w) true is some h = counted_less count k w es is h
  counted_at count k es (Some w) false is some h = absurd cc

  pub counted_updated : (step : V → V → Type 0) (b : Bool) (count : ℕ) (k : Prefix) (o : Option V) (es new : List (Prefix × V)) → o ≡ found es k → Updates step b o es new k → k.bits < 2 ^ 32 → IsCounted count es → IsCounted count new
  counted_updated step b count k None es new is u small h = rw u.1 h
  counted_updated step b count k (Some v) es new is u small h = rw u.1.2 (counted_same count k u.1.0 v es small (sym is) h)
