-- What is known where a part of a trie begins with a node.
use Rattle.std.proofs.Common.{Box, ◌⊎◌, inl, inr, ◌≡◌, ℕ, ◌+◌, ◌<◌, ◌≤◌, ◌++◌, Option, None, Some, refl, sym, ap, subst, ◌∙◌, arith}
use Rattle.net_prefix.specs.declared.prefix.Prefix.{Prefix}
use Rattle.prefix_trie.specs.Nodes.{here, all_of, shape, AreParts, IsTrie, RootIs}
use Rattle.prefix_trie.specs.declared.node.Link.{Link}
use Rattle.prefix_trie.specs.declared.node.Link.TheVariants.{Fork}
use Rattle.prefix_trie.specs.declared.node.Node.{Node}
use Rattle.prefix_trie.specs.Places.{IsInside, IsLow, IsHigh, Stands, end_of, middle}
use Rattle.prefix_trie.specs.declared.places.Place.{Place}
use Rattle.prefix_trie.specs.declared.places.Place.TheVariants.{OverLow, OverHigh, Before, Behind}
use Rattle.prefix_trie.specs.Shape.{Shape}
use Rattle.prefix_trie.specs.TrieMap.{found}
use Rattle.net_prefix.proofs.Blocks.{block_pos}
use Rattle.prefix_trie.proofs.Blocks.{end_by_halves}
use Rattle.prefix_trie.proofs.EntryLists.{AreAbove, AreBelow, each_weaker, each_append, found_low, found_high, found_above, found_below}
use Rattle.net_prefix.proofs.Ranks.{rank, cmp_same}

-- what is in the lower half stands before what is in the upper half
low_before_high : (p q r : Prefix) → IsLow p q → IsHigh p r → rank q < rank r
low_before_high p q r low high =
    let positive = block_pos q.len in
    let short = q.short in
    omega (arith, low.to, high.from, positive)

-- a prefix stands before what its halves cover
pub inside_rank : (p q : Prefix) (base : ℕ) → p.bits ≤ base → IsInside base (p.len + 1) q → rank p < rank q
inside_rank p q base from h = omega (arith, h.long, h.from)

-- what is behind a prefix is behind what its halves cover
behind_low : (p q k : Prefix) → end_of p ≤ k.bits → IsLow p q → rank q < rank k
behind_low p q k behind low =
    let short = q.short in
    let positive = block_pos q.len in
    let half = block_pos (p.len + 1) in
    let ends = end_by_halves p (omega (arith, low.long)) in
    omega (arith, low.to)

behind_high : (p q k : Prefix) → end_of p ≤ k.bits → IsHigh p q → rank q < rank k
behind_high p q k behind high =
    let short = q.short in
    let positive = block_pos q.len in
    let ends = end_by_halves p (omega (arith, high.long)) in
    omega (arith, high.to)

-- the entry of a node stands before what its halves cover
pub here_below : {V : Type 0} (p : Prefix) (v : Option V) (k : Prefix) → rank p < rank k → AreBelow k (here p v)
here_below p None k h = tt
here_below p (Some v) k h = (h, tt)

pub here_above : {V : Type 0} (p : Prefix) (v : Option V) (k : Prefix) → rank k < rank p → AreAbove k (here p v)
here_above p None k h = tt
here_above p (Some v) k h = (h, tt)

pub low_rank : (p k : Prefix) → IsLow p k → rank p < rank k
low_rank p k h = inside_rank p k p.bits (omega arith) h

pub high_rank : (p k : Prefix) → IsHigh p k → rank p < rank k
high_rank p k h = inside_rank p k (middle p) (omega arith) h

pub before_rank : (p k : Prefix) → end_of k ≤ p.bits → rank k < rank p
before_rank p k h = let short = k.short in let positive = block_pos k.len in omega arith

module _ {V : Type 0} (p : Prefix) (v : Option V) (low high : Shape V) (parts : AreParts p v low high) where
  pub low_above : (k : Prefix) → IsLow p k → AreAbove k high.entries
  low_above k h = each_weaker (IsHigh p) (λ q. rank k < rank q) (λ q i. low_before_high p k q h i) high.entries parts.high_entries

  pub high_below : (k : Prefix) → IsHigh p k → AreBelow k low.entries
  high_below k h = each_weaker (IsLow p) (λ q. rank q < rank k) (λ q i. low_before_high p q k i h) low.entries parts.low_entries

  -- what stands before the node stands before all of it
  pub sides_above : (k : Prefix) → rank k ≤ rank p → AreAbove k (low.entries ++ high.entries)
  sides_above k h = each_append (λ q. rank k < rank q) low.entries high.entries
      (each_weaker (IsLow p) (λ q. rank k < rank q) (λ q i. let r = low_rank p q i in omega arith) low.entries parts.low_entries)
      (each_weaker (IsHigh p) (λ q. rank k < rank q) (λ q i. let r = high_rank p q i in omega arith) high.entries parts.high_entries)

  pub all_above : (k : Prefix) → rank k < rank p → AreAbove k (all_of p v low high)
  all_above k h = each_append (λ q. rank k < rank q) (here p v) (low.entries ++ high.entries) (here_above p v k h) (sides_above k (omega arith))

  pub all_below : (k : Prefix) → end_of p ≤ k.bits → AreBelow k (all_of p v low high)
  all_below k h = each_append (λ q. rank q < rank k) (here p v) (low.entries ++ high.entries)
      (here_below p v k (let positive = block_pos p.len in let short = p.short in omega arith))
      (each_append (λ q. rank q < rank k) low.entries high.entries
      (each_weaker (IsLow p) (λ q. rank q < rank k) (λ q i. behind_low p q k h i) low.entries parts.low_entries)
      (each_weaker (IsHigh p) (λ q. rank q < rank k) (λ q i. behind_high p q k h i) high.entries parts.high_entries))

  -- what is found at the places of a node
  pub found_in_low : (k : Prefix) → IsLow p k → found (all_of p v low high) k ≡ found low.entries k
  found_in_low k h = found_high k (here p v) (low.entries ++ high.entries) (here_below p v k (low_rank p k h)) ∙ found_low k low.entries high.entries (low_above k h)

  pub found_in_high : (k : Prefix) → IsHigh p k → found (all_of p v low high) k ≡ found high.entries k
  found_in_high k h = found_high k (here p v) (low.entries ++ high.entries) (here_below p v k (high_rank p k h)) ∙ found_high k low.entries high.entries (high_below k h)

  -- a key that no part of the node's prefix covers has no value there
  pub found_outside : (k : Prefix) (place : Place) → Stands p k place → (place ≡ OverLow) ⊎ ((place ≡ OverHigh) ⊎ ((place ≡ Before) ⊎ (place ≡ Behind))) → found (all_of p v low high) k ≡ None
  found_outside k place stands (inl e) = found_above k (all_of p v low high) (all_above k (low_rank k p (rw e at stands)))
  found_outside k place stands (inr (inl e)) = found_above k (all_of p v low high) (all_above k (high_rank k p (rw e at stands)))
  found_outside k place stands (inr (inr (inl e))) = found_above k (all_of p v low high) (all_above k (before_rank p k (rw e at stands)))
  found_outside k place stands (inr (inr (inr e))) = found_below k (all_of p v low high) (all_below k (rw e at stands))

-- what a node has at its own prefix
pub found_here : {V : Type 0} (p : Prefix) (v : Option V) (low high : Shape V) → AreParts p v low high → found (all_of p v low high) p ≡ v
found_here p None low high parts = found_above p (low.entries ++ high.entries) (sides_above p None low high parts p (omega arith))
found_here p (Some v) low high parts = rw (cmp_same p) refl

-- a part of a trie that begins with a node
pub record AtNode {V A : Type 0} (d : Shape V) (n : Node V A) : Type 0 where
  pub entries : d.entries ≡ all_of n.prefix n.value n.low n.high
  pub root : d.root ≡ Some n.prefix
  pub parts : AreParts n.prefix n.value n.low n.high

pub at_node : {V A : Type 0} {l : Link V A} {d : Shape V} {n : Box (Node V A) A} → shape l ≡ d → IsTrie l → l ≡ Fork n → AtNode {A = A} d n.value
at_node {V} {A} {l} {d} {n} view_is invariant is =
    let e = sym view_is ∙ ap shape is in
    record {
      entries = ap (λ (s : Shape V). s.entries) e;
      root = ap (λ (s : Shape V). s.root) e;
      parts = subst IsTrie is invariant;
    }

pub opened : {V A : Type 0} (d : Shape V) (n : Box (Node V A) A) → shape (Fork n) ≡ d → IsTrie (Fork n) → AtNode {A = A} d n.value
opened {V} {A} d n view_is invariant = record {
  entries = ap (λ (s : Shape V). s.entries) (sym view_is);
  root = ap (λ (s : Shape V). s.root) (sym view_is);
  parts = invariant;
}

pub root_weaker : (P Q : Prefix → Type 0) → ((p : Prefix) → P p → Q p) → (root : Option Prefix) → RootIs P root → RootIs Q root
root_weaker P Q f None h = tt
root_weaker P Q f (Some p) h = f p h
