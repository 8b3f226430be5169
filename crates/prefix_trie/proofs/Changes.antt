-- What a value that is put or taken out below a node makes of the node.
use Rattle.std.proofs.Common.{◌≡◌, ℕ, ◌+◌, ◌%◌, ◌<◌, ◌≤◌, ◌++◌, Bool, true, false, cond, List, [], ◌∷◌, Option, None, Some, Result, Ok, Err, is_ok, IfOk, OnErr, refl, sym, ap, subst, ◌∙◌, append-nil, length, arith}
use Rattle.std.specs.declared.alloc.AllocFailed.{AllocFailed}
use Rattle.std.proofs.lemmas.List.{length-append}
use Rattle.std.specs.List.Sorted.{IsStrictlySortedBy}
use Rattle.std.specs.Ordering.{match_ordering}
use Rattle.std.specs.declared.cmp.Ordering.{Ordering}
use Rattle.std.specs.declared.cmp.Ordering.TheVariants.{Less, Equal, Greater}
use Rattle.net_prefix.specs.PrefixOrder.{prefix_cmp}
use Rattle.net_prefix.specs.Cover.{block_size}
use Rattle.net_prefix.specs.declared.prefix.Prefix.{Prefix}
use Rattle.prefix_trie.specs.Nodes.{here, all_of, EachIs, AreParts, AreSides, IsInserted, IsPut, IsRemoved, RootIs}
use Rattle.prefix_trie.specs.Places.{IsInside, IsLow, IsHigh, end_of, middle}
use Rattle.prefix_trie.specs.declared.node.Node.{Node}
use Rattle.prefix_trie.specs.Shape.{Shape, no_shape, one_shape}
use Rattle.prefix_trie.specs.TrieMap.{IsRising, found, with_entry, without}
use Rattle.prefix_trie.proofs.AtNode.{AtNode, all_above, all_below, before_rank, found_here, found_in_low, found_in_high, here_below, high_below, high_rank, low_above, low_rank, sides_above}
use Rattle.prefix_trie.proofs.Blocks.{bits_whole, fork_inside, high_inside, low_inside, middle_whole}
use Rattle.prefix_trie.proofs.Counts.{without_none}
use Rattle.prefix_trie.proofs.EntryLists.{AreAbove, AreBelow, each_append, each_kept, each_weaker, each_with, found_above, found_below, rising_with, rising_without, with_above, with_high, with_low, without_above, without_append, without_below}
use Rattle.net_prefix.proofs.Ranks.{rank, cmp_same}

module _ {V : Type 0} where
  with_here : (p : Prefix) (w : Option V) (v : V) (low high : Shape V) → AreParts p w low high → with_entry (all_of p w low high) p v ≡ all_of p (Some v) low high
  with_here p None v low high parts = with_above p v (low.entries ++ high.entries) (sides_above p None low high parts p (omega arith))
  with_here p (Some w) v low high parts = rw (cmp_same p) refl

  with_in_low : (p : Prefix) (w : Option V) (k : Prefix) (v : V) (low high : Shape V) → AreParts p w low high → IsLow p k → with_entry (all_of p w low high) k v ≡ here p w ++ (with_entry low.entries k v ++ high.entries)
  with_in_low p w k v low high parts at =
      with_high k v (here p w) (low.entries ++ high.entries) (here_below p w k (low_rank p k at))
      ∙ ap (λ es. here p w ++ es) (with_low k v low.entries high.entries (low_above p w low high parts k at))

  with_in_high : (p : Prefix) (w : Option V) (k : Prefix) (v : V) (low high : Shape V) → AreParts p w low high → IsHigh p k → with_entry (all_of p w low high) k v ≡ here p w ++ (low.entries ++ with_entry high.entries k v)
  with_in_high p w k v low high parts at =
      with_high k v (here p w) (low.entries ++ high.entries) (here_below p w k (high_rank p k at))
      ∙ ap (λ es. here p w ++ es) (with_high k v low.entries high.entries (high_below p w low high parts k at))

  -- a value at the node's own prefix leaves a node
  pub parts_here : (p : Prefix) (w : Option V) (v : V) (low high : Shape V) → AreParts p w low high → AreParts p (Some v) low high
  parts_here p w v low high parts = record {
    low_entries = parts.low_entries;
    high_entries = parts.high_entries;
    low_root = parts.low_root;
    high_root = parts.high_root;
    rising = subst IsRising (with_here p w v low high parts) (rising_with p v (all_of p w low high) parts.rising);
    full = λ e. absurd cc;
  }

  low_all : (b : Bool) (p : Prefix) (w : Option V) (k : Prefix) (v : V) (low new high : Shape V) → AreParts p w low high → IsLow p k → new.entries ≡ cond b (with_entry low.entries k v) low.entries
      → all_of p w new high ≡ cond b (with_entry (all_of p w low high) k v) (all_of p w low high)
  low_all true p w k v low new high parts at e = rw e (sym (with_in_low p w k v low high parts at))
  low_all false p w k v low new high parts at e = rw e refl

  high_all : (b : Bool) (p : Prefix) (w : Option V) (k : Prefix) (v : V) (low high new : Shape V) → AreParts p w low high → IsHigh p k → new.entries ≡ cond b (with_entry high.entries k v) high.entries
      → all_of p w low new ≡ cond b (with_entry (all_of p w low high) k v) (all_of p w low high)
  high_all true p w k v low high new parts at e = rw e (sym (with_in_high p w k v low high parts at))
  high_all false p w k v low high new parts at e = rw e refl

  rising_if : (b : Bool) (k : Prefix) (v : V) (es new : List (Prefix × V)) → IsRising es → new ≡ cond b (with_entry es k v) es → IsRising new
  rising_if true k v es new h e = subst IsRising (sym e) (rising_with k v es h)
  rising_if false k v es new h e = subst IsRising (sym e) h

  each_if : (P : Prefix → Type 0) (b : Bool) (k : Prefix) (v : V) (es new : List (Prefix × V)) → P k → EachIs P es → new ≡ cond b (with_entry es k v) es → EachIs P new
  each_if P true k v es new p h e = subst (EachIs P) (sym e) (each_with P k v es p h)
  each_if P false k v es new p h e = subst (EachIs P) (sym e) h

  some_case : (k : Prefix) (v : V) (x : Prefix × V) (es more : List (Prefix × V)) (r : Ordering) → 0 < length (match_ordering r ((k, v) ∷ x ∷ es) ((x.0, v) ∷ es) (x ∷ more))
  some_case k v x es more Less = omega arith
  some_case k v x es more Equal = omega arith
  some_case k v x es more Greater = omega arith

  some_with : (k : Prefix) (v : V) (es : List (Prefix × V)) → 0 < length (with_entry es k v)
  some_with k v [] = omega arith
  some_with k v (x ∷ es) = some_case k v x es (with_entry es k v) (prefix_cmp k x.0)

  some_if : (b : Bool) (k : Prefix) (v : V) (es new : List (Prefix × V)) → 0 < length es → new ≡ cond b (with_entry es k v) es → 0 < length new
  some_if true k v es new h e = rw e (some_with k v es)
  some_if false k v es new h e = rw e h

  -- there is an entry where there is a node
  pub some_all : (p : Prefix) (w : Option V) (low high : Shape V) → AreParts p w low high → 0 < length (all_of p w low high)
  some_all p None low high parts =
      let sides = parts.full refl in
      let both = length-append low.entries high.entries in
      omega (arith, sides.0)
  some_all p (Some v) low high parts = omega arith

  -- a value that is put in a half leaves a node
  pub parts_low : (r : Result (Option V) (AllocFailed V)) (p : Prefix) (w : Option V) (k : Prefix) (v : V) (low new high : Shape V) → AreParts p w low high → IsLow p k → IsInserted r low new k v → AreParts p w new high
  parts_low r p w k v low new high parts at put = record {
    low_entries = each_if (IsLow p) (is_ok r) k v low.entries new.entries at parts.low_entries put.entries;
    high_entries = parts.high_entries;
    low_root = put.inside p.bits (p.len + 1) (bits_whole p (p.len + 1) (omega arith)) at parts.low_root;
    high_root = parts.high_root;
    rising = rising_if (is_ok r) k v (all_of p w low high) (all_of p w new high) parts.rising (low_all (is_ok r) p w k v low new high parts at put.entries);
    full = λ e. let sides = parts.full e in (some_if (is_ok r) k v low.entries new.entries sides.0 put.entries, sides.1);
  }

  pub parts_high : (r : Result (Option V) (AllocFailed V)) (p : Prefix) (w : Option V) (k : Prefix) (v : V) (low high new : Shape V) → AreParts p w low high → IsHigh p k → IsInserted r high new k v → AreParts p w low new
  parts_high r p w k v low high new parts at put = record {
    low_entries = parts.low_entries;
    high_entries = each_if (IsHigh p) (is_ok r) k v high.entries new.entries at parts.high_entries put.entries;
    low_root = parts.low_root;
    high_root = put.inside (middle p) (p.len + 1) (middle_whole p (p.len + 1) (omega arith)) at parts.high_root;
    rising = rising_if (is_ok r) k v (all_of p w low high) (all_of p w low new) parts.rising (high_all (is_ok r) p w k v low high new parts at put.entries);
    full = λ e. let sides = parts.full e in (sides.0, some_if (is_ok r) k v high.entries new.entries sides.1 put.entries);
  }

  if_ok : (r : Result (Option V) (AllocFailed V)) (x y : Option V) → x ≡ y → IfOk r (λ before. before ≡ x) → IfOk r (λ before. before ≡ y)
  if_ok (Ok before) x y e h = h ∙ e
  if_ok (Err failed) x y e h = tt

  on_err : (r : Result (Option V) (AllocFailed V)) (x y : Option V) → x ≡ y → OnErr r (x ≡ None) → OnErr r (y ≡ None)
  on_err (Ok before) x y e h = tt
  on_err (Err failed) x y e h = sym e ∙ h

here_each : {V : Type 0} (P : Prefix → Type 0) (p : Prefix) (w : Option V) → P p → EachIs P (here p w)
here_each P p None h = tt
here_each P p (Some v) h = (h, tt)

pub rising_nil : (V : Type 0) → IsRising {V = V} []
unfolding IsStrictlySortedBy
rising_nil V = tt

-- a value alone
pub leaf_parts : {V : Type 0} (p : Prefix) (v : V) → AreParts p (Some v) no_shape no_shape
leaf_parts {V} p v = record { low_entries = tt; high_entries = tt; low_root = tt; high_root = tt; rising = rising_with p v [] (rising_nil V); full = λ e. absurd cc }

-- a node, and what it is seen as
pub record IsSeen {V : Type 0} (d : Shape V) (p : Prefix) (w : Option V) (low high : Shape V) : Type 0 where
  pub entries : d.entries ≡ all_of p w low high
  pub root : d.root ≡ Some p

pub seen_at : {V A : Type 0} (e d : Shape V) (n : Node V A) → AtNode {A = A} e n → e ≡ d → IsSeen d n.prefix n.value n.low n.high
seen_at {V} e d n f same = record {
  entries = ap (λ (x : Shape V). x.entries) (sym same) ∙ f.entries;
  root = ap (λ (x : Shape V). x.root) (sym same) ∙ f.root;
}

module _ {V : Type 0} (d s : Shape V) (p : Prefix) (w : Option V) (low high : Shape V) (seen : IsSeen d p w low high) (parts : AreParts p w low high) where
  root_stays : (P : Prefix → Type 0) → s.root ≡ Some p → RootIs P d.root → RootIs P s.root
  root_stays P root h = rw root (rw seen.root at h)

  pub inserted_here : (v : V) → s.entries ≡ all_of p (Some v) low high → s.root ≡ Some p → IsInserted (Ok w) d s p v
  inserted_here v entries root = record {
    entries = entries ∙ sym (ap (λ es. with_entry es p v) seen.entries ∙ with_here p w v low high parts);
    before = sym (ap (λ es. found es p) seen.entries ∙ found_here p w low high parts);
    absent = tt;
    returned = tt;
    inside = λ base len whole at h. root_stays (IsInside base len) root h;
  }

  pub inserted_low : (r : Result (Option V) (AllocFailed V)) (k : Prefix) (v : V) (new : Shape V) → IsLow p k → IsInserted r low new k v → s.entries ≡ all_of p w new high → s.root ≡ Some p → IsInserted r d s k v
  inserted_low r k v new at put entries root =
      let same : found d.entries k ≡ found low.entries k = ap (λ es. found es k) seen.entries ∙ found_in_low p w low high parts k at in
      record {
        entries = entries ∙ low_all (is_ok r) p w k v low new high parts at put.entries ∙ sym (ap (λ es. cond (is_ok r) (with_entry es k v) es) seen.entries);
        before = if_ok r _ _ (sym same) put.before;
        absent = on_err r _ _ (sym same) put.absent;
        returned = put.returned;
        inside = λ base len whole i h. root_stays (IsInside base len) root h;
      }

  pub inserted_high : (r : Result (Option V) (AllocFailed V)) (k : Prefix) (v : V) (new : Shape V) → IsHigh p k → IsInserted r high new k v → s.entries ≡ all_of p w low new → s.root ≡ Some p → IsInserted r d s k v
  inserted_high r k v new at put entries root =
      let same : found d.entries k ≡ found high.entries k = ap (λ es. found es k) seen.entries ∙ found_in_high p w low high parts k at in
      record {
        entries = entries ∙ high_all (is_ok r) p w k v low high new parts at put.entries ∙ sym (ap (λ es. cond (is_ok r) (with_entry es k v) es) seen.entries);
        before = if_ok r _ _ (sym same) put.before;
        absent = on_err r _ _ (sym same) put.absent;
        returned = put.returned;
        inside = λ base len whole i h. root_stays (IsInside base len) root h;
      }

module _ {V : Type 0} (d o : Shape V) (p : Prefix) (w : Option V) (low high : Shape V) (seen : IsSeen d p w low high) (again : IsSeen o p w low high) (parts : AreParts p w low high) where
  old_all : o.entries ≡ d.entries
  old_all = again.entries ∙ sym seen.entries

  some_old : 0 < length o.entries
  some_old = rw again.entries (some_all p w low high parts)

  rises : IsRising d.entries
  rises = rw seen.entries parts.rising

  -- what lies where the node's prefix lies
  each_inside : (base len : ℕ) → IsInside base len p → EachIs (IsInside base len) o.entries
  each_inside base len at = rw again.entries
      (each_append (IsInside base len) (here p w) (low.entries ++ high.entries) (here_each (IsInside base len) p w at)
      (each_append (IsInside base len) low.entries high.entries
      (each_weaker (IsLow p) (IsInside base len) (λ q i. low_inside p q base len at i) low.entries parts.low_entries)
      (each_weaker (IsHigh p) (IsInside base len) (λ q i. high_inside p q base len at i) high.entries parts.high_entries)))

  above : (k : Prefix) → rank k < rank p → AreAbove k o.entries
  above k h = rw again.entries (all_above p w low high parts k h)

  below : (k : Prefix) → end_of p ≤ k.bits → AreBelow k o.entries
  below k h = rw again.entries (all_below p w low high parts k h)

  pub put_before_all : (k : Prefix) (v : V) → rank k < rank p → (k, v) ∷ o.entries ≡ with_entry d.entries k v
  put_before_all k v h = sym (with_above k v o.entries (above k h)) ∙ ap (λ es. with_entry es k v) old_all

  rises_before : (k : Prefix) (v : V) → rank k < rank p → IsRising ((k, v) ∷ o.entries)
  rises_before k v h = subst IsRising (sym (put_before_all k v h)) (rising_with k v d.entries rises)

  pub put_behind_all : (k : Prefix) (v : V) → end_of p ≤ k.bits → o.entries ++ (k, v) ∷ [] ≡ with_entry d.entries k v
  put_behind_all k v h =
      sym (with_high k v o.entries [] (below k h)) ∙ ap (λ es. with_entry es k v) (append-nil o.entries)
      ∙ ap (λ es. with_entry es k v) old_all

  rises_behind : (k : Prefix) (v : V) → end_of p ≤ k.bits → IsRising (o.entries ++ (k, v) ∷ [])
  rises_behind k v h = subst IsRising (sym (put_behind_all k v h)) (rising_with k v d.entries rises)

  pub parts_over_low : (k : Prefix) (v : V) → IsLow k p → AreParts k (Some v) o no_shape
  parts_over_low k v at = record {
    low_entries = each_inside k.bits (k.len + 1) at;
    high_entries = tt;
    low_root = rw again.root at;
    high_root = tt;
    rising = subst (λ (es : List (Prefix × V)). IsRising ((k, v) ∷ es)) (sym (append-nil o.entries)) (rises_before k v (low_rank k p at));
    full = λ e. absurd cc;
  }

  pub parts_over_high : (k : Prefix) (v : V) → IsHigh k p → AreParts k (Some v) no_shape o
  parts_over_high k v at = record {
    low_entries = tt;
    high_entries = each_inside (middle k) (k.len + 1) at;
    low_root = tt;
    high_root = rw again.root at;
    rising = rises_before k v (high_rank k p at);
    full = λ e. absurd cc;
  }

  pub parts_before : (k : Prefix) (v : V) (f : Prefix) → end_of k ≤ p.bits → IsLow f k → IsHigh f p → AreParts {V = V} f None (one_shape k v) o
  parts_before k v f before low_at high_at = record {
    low_entries = (low_at, tt);
    high_entries = each_inside (middle f) (f.len + 1) high_at;
    low_root = low_at;
    high_root = rw again.root high_at;
    rising = rises_before k v (before_rank p k before);
    full = λ e. (omega arith, some_old);
  }

  pub parts_behind : (k : Prefix) (v : V) (f : Prefix) → end_of p ≤ k.bits → IsLow f p → IsHigh f k → AreParts {V = V} f None o (one_shape k v)
  parts_behind k v f behind low_at high_at = record {
    low_entries = each_inside f.bits (f.len + 1) low_at;
    high_entries = (high_at, tt);
    low_root = rw again.root low_at;
    high_root = high_at;
    rising = rises_behind k v behind;
    full = λ e. (some_old, omega arith);
  }

  inserted_put : (r : Result (Option V) (AllocFailed V)) (k : Prefix) (v : V) (s : Shape V) (f : Prefix) (es : List (Prefix × V)) → IsPut r o s v f es → es ≡ with_entry d.entries k v → found o.entries k ≡ None
      → ((base len : ℕ) → base % block_size len ≡ 0 → IsInside base len k → IsInside base len p → IsInside base len f) → IsInserted r d s k v
  inserted_put (Ok before) k v s f es put are none at = record {
    entries = put.1 ∙ are;
    before = put.0 ∙ sym none ∙ ap (λ xs. found xs k) old_all;
    absent = tt;
    returned = tt;
    inside = λ base len whole i h. rw put.2 (at base len whole i (rw seen.root at h));
  }
  inserted_put (Err failed) k v s f es put are none at = record {
    entries = ap (λ (x : Shape V). x.entries) put.1 ∙ old_all;
    before = tt;
    absent = sym (ap (λ xs. found xs k) old_all) ∙ none;
    returned = put.0;
    inside = λ base len whole i h. rw (put.1, again.root) (rw seen.root at h);
  }

  pub inserted_over_low : (r : Result (Option V) (AllocFailed V)) (k : Prefix) (v : V) (s : Shape V) → IsLow k p → IsPut r o s v k (all_of k (Some v) o no_shape) → IsInserted r d s k v
  inserted_over_low r k v s at put =
      inserted_put r k v s k _ put (ap (λ es. (k, v) ∷ es) (append-nil o.entries) ∙ put_before_all k v (low_rank k p at)) (found_above k o.entries (above k (low_rank k p at))) (λ base len whole i h. i)

  pub inserted_over_high : (r : Result (Option V) (AllocFailed V)) (k : Prefix) (v : V) (s : Shape V) → IsHigh k p → IsPut r o s v k (all_of k (Some v) no_shape o) → IsInserted r d s k v
  inserted_over_high r k v s at put =
      inserted_put r k v s k _ put (put_before_all k v (high_rank k p at)) (found_above k o.entries (above k (high_rank k p at))) (λ base len whole i h. i)

  pub inserted_before : (r : Result (Option V) (AllocFailed V)) (k : Prefix) (v : V) (s : Shape V) (f : Prefix) → end_of k ≤ p.bits → IsLow f k → IsHigh f p → IsPut r o s v f (all_of f None (one_shape k v) o) → IsInserted r d s k v
  inserted_before r k v s f before low_at high_at put =
      inserted_put r k v s f _ put (put_before_all k v (before_rank p k before)) (found_above k o.entries (above k (before_rank p k before)))
      (λ base len whole i h. fork_inside f k p base len whole low_at high_at i h)

  pub inserted_behind : (r : Result (Option V) (AllocFailed V)) (k : Prefix) (v : V) (s : Shape V) (f : Prefix) → end_of p ≤ k.bits → IsLow f p → IsHigh f k → IsPut r o s v f (all_of f None o (one_shape k v)) → IsInserted r d s k v
  inserted_behind r k v s f behind low_at high_at put =
      inserted_put r k v s f _ put (put_behind_all k v behind) (found_below k o.entries (below k behind))
      (λ base len whole i h. fork_inside f p k base len whole low_at high_at h i)

-- what a value that is taken out leaves
module _ {V : Type 0} (d : Shape V) (p : Prefix) (w : Option V) (low high : Shape V) (seen : IsSeen d p w low high) (parts : AreParts p w low high) where
  without_here : (u : Option V) → without (here p u) p ≡ []
  without_here None = refl
  without_here (Some v) = rw (cmp_same p) refl

  left_here : all_of p None low high ≡ without d.entries p
  left_here = sym (ap (λ es. without es p) seen.entries ∙ without_append p (here p w) (low.entries ++ high.entries)
      ∙ rw (without_here w) (without_above p (low.entries ++ high.entries) (sides_above p w low high parts p (omega arith))))

  left_low : (k : Prefix) (new : Shape V) → IsLow p k → new.entries ≡ without low.entries k → all_of p w new high ≡ without d.entries k
  left_low k new at e = sym (ap (λ es. without es k) seen.entries ∙ without_append k (here p w) (low.entries ++ high.entries)
      ∙ rw (without_below k (here p w) (here_below p w k (low_rank p k at)), without_append k low.entries high.entries, without_above k high.entries (low_above p w low high parts k at), sym e) refl)

  left_high : (k : Prefix) (new : Shape V) → IsHigh p k → new.entries ≡ without high.entries k → all_of p w low new ≡ without d.entries k
  left_high k new at e = sym (ap (λ es. without es k) seen.entries ∙ without_append k (here p w) (low.entries ++ high.entries)
      ∙ rw (without_below k (here p w) (here_below p w k (high_rank p k at)), without_append k low.entries high.entries, without_below k low.entries (high_below p w low high parts k at), sym e) refl)

  still_rising : (k : Prefix) (es : List (Prefix × V)) → es ≡ without d.entries k → IsRising es
  still_rising k es e = subst IsRising (sym e) (rising_without k d.entries (rw seen.entries parts.rising))

  pub sides_here : AreSides p None low high
  sides_here = record {
    low_entries = parts.low_entries;
    high_entries = parts.high_entries;
    low_root = parts.low_root;
    high_root = parts.high_root;
    rising = still_rising p _ left_here;
  }

  pub sides_low : (r : Option V) (k : Prefix) (new : Shape V) → IsLow p k → IsRemoved r low new k → AreSides p w new high
  sides_low r k new at out = record {
    low_entries = subst (EachIs (IsLow p)) (sym out.entries) (each_kept (IsLow p) _ low.entries parts.low_entries);
    high_entries = parts.high_entries;
    low_root = out.inside p.bits (p.len + 1) parts.low_root;
    high_root = parts.high_root;
    rising = still_rising k _ (left_low k new at out.entries);
  }

  pub sides_high : (r : Option V) (k : Prefix) (new : Shape V) → IsHigh p k → IsRemoved r high new k → AreSides p w low new
  sides_high r k new at out = record {
    low_entries = parts.low_entries;
    high_entries = subst (EachIs (IsHigh p)) (sym out.entries) (each_kept (IsHigh p) _ high.entries parts.high_entries);
    low_root = parts.low_root;
    high_root = out.inside (middle p) (p.len + 1) parts.high_root;
    rising = still_rising k _ (left_high k new at out.entries);
  }

  module _ (s : Shape V) (inside : (base len : ℕ) → IsInside base len p → RootIs (IsInside base len) s.root) where
    stays : (base len : ℕ) → RootIs (IsInside base len) d.root → RootIs (IsInside base len) s.root
    stays base len h = inside base len (rw seen.root at h)

    pub removed_here : s.entries ≡ all_of p None low high → IsRemoved w d s p
    removed_here e = record { removed = sym (ap (λ es. found es p) seen.entries ∙ found_here p w low high parts); entries = e ∙ left_here; inside = stays }

    pub removed_low : (r : Option V) (k : Prefix) (new : Shape V) → IsLow p k → IsRemoved r low new k → s.entries ≡ all_of p w new high → IsRemoved r d s k
    removed_low r k new at out e = record {
      removed = out.removed ∙ sym (ap (λ es. found es k) seen.entries ∙ found_in_low p w low high parts k at);
      entries = e ∙ left_low k new at out.entries;
      inside = stays;
    }

    pub removed_high : (r : Option V) (k : Prefix) (new : Shape V) → IsHigh p k → IsRemoved r high new k → s.entries ≡ all_of p w low new → IsRemoved r d s k
    removed_high r k new at out e = record {
      removed = out.removed ∙ sym (ap (λ es. found es k) seen.entries ∙ found_in_high p w low high parts k at);
      entries = e ∙ left_high k new at out.entries;
      inside = stays;
    }

pub removed_none : {V : Type 0} (d s : Shape V) (p : Prefix) (w : Option V) (low high : Shape V) → IsSeen d p w low high → (k : Prefix) → s.entries ≡ all_of p w low high → s.root ≡ Some p → found (all_of p w low high) k ≡ None → IsRemoved None d s k
removed_none d s p w low high seen k entries root none = record {
  removed = sym (ap (λ es. found es k) seen.entries ∙ none);
  entries = entries ∙ sym (ap (λ es. without es k) seen.entries ∙ without_none k (all_of p w low high) none);
  inside = λ base len h. rw root (rw seen.root at h);
}
