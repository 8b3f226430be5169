-- Laws of the first entry.
use Rattle.std.proofs.Common.{◌≡◌, ◌<◌, ◌≤◌, ◌++◌, ◌⊎◌, inl, inr, List, [], ◌∷◌, Option, None, Some, refl, sym, ap, ◌∙◌}
use Rattle.std.specs.Ordering.{is_lt}
use Rattle.net_prefix.specs.PrefixOrder.{prefix_cmp}
use Rattle.net_prefix.specs.declared.prefix.Prefix.{Prefix}
use Rattle.std.proofs.lemmas.List.Elements.{filter-append}
use Rattle.prefix_trie.specs.Nodes.{here, all_of, AreParts}
use Rattle.prefix_trie.specs.Places.{IsLow, IsHigh, Stands, end_of}
use Rattle.prefix_trie.specs.Shape.{Shape}
use Rattle.prefix_trie.specs.declared.places.Place.{Place}
use Rattle.prefix_trie.specs.declared.places.Place.TheVariants.{OverLow, OverHigh, Before}
use Rattle.prefix_trie.proofs.AtNode.{all_above as all_above_node, all_below, before_rank, here_below, high_below, high_rank, low_above, low_rank}
use Rattle.prefix_trie.specs.TrieWalks.{first_of, all_above}
use Rattle.prefix_trie.proofs.EntryLists.{AreAbove, AreBelow}
use Rattle.net_prefix.proofs.Ranks.{rank, cmp_below, cmp_above}

-- the first, or else the second
abbrev pub or_else : {X : Type 0} → Option X → Option X → Option X
or_else None second = second
or_else (Some x) second = Some x

module _ {V : Type 0} where
  pub first_append : (xs ys : List (Prefix × V)) → first_of (xs ++ ys) ≡ or_else (first_of xs) (first_of ys)
  first_append [] ys = refl
  first_append (x ∷ xs) ys = refl

  pub above_all : (k : Prefix) (es : List (Prefix × V)) → AreAbove k es → all_above k es ≡ es
  above_all k [] h = refl
  above_all k (e ∷ es) h = rw (cmp_below k e.0 h.0) (ap (λ l. e ∷ l) (above_all k es h.1))

  pub above_none : (k : Prefix) (es : List (Prefix × V)) → AreBelow k es → all_above k es ≡ []
  above_none k [] h = refl
  above_none k (e ∷ es) h = rw (cmp_above k e.0 h.0) (above_none k es h.1)

module _ {V : Type 0} (d : Shape V) (p : Prefix) (w : Option V) (low high : Shape V) (entries : d.entries ≡ all_of p w low high) (parts : AreParts p w low high) where
  split : (k : Prefix) → all_above k d.entries ≡ all_above k (here p w) ++ (all_above k low.entries ++ all_above k high.entries)
  split k = ap (all_above k) entries ∙ filter-append (λ e. is_lt (prefix_cmp k e.0)) (here p w) (low.entries ++ high.entries)
      ∙ ap (λ es. all_above k (here p w) ++ es) (filter-append (λ e. is_lt (prefix_cmp k e.0)) low.entries high.entries)

  above_low : (k : Prefix) → IsLow p k → all_above k d.entries ≡ all_above k low.entries ++ high.entries
  above_low k at = split k ∙ rw (above_none k (here p w) (here_below p w k (low_rank p k at)), above_all k high.entries (low_above p w low high parts k at)) refl

  above_high : (k : Prefix) → IsHigh p k → all_above k d.entries ≡ all_above k high.entries
  above_high k at = split k ∙ rw (above_none k (here p w) (here_below p w k (high_rank p k at)), above_none k low.entries (high_below p w low high parts k at)) refl

  -- the first above a key, at the places of a node
  pub first_low_none : (k : Prefix) → IsLow p k → first_of (all_above k low.entries) ≡ None → first_of (all_above k d.entries) ≡ first_of high.entries
  first_low_none k at none = ap first_of (above_low k at) ∙ first_append (all_above k low.entries) high.entries ∙ rw none refl

  pub first_high : (k : Prefix) → IsHigh p k → first_of (all_above k d.entries) ≡ first_of (all_above k high.entries)
  first_high k at = ap first_of (above_high k at)

  all_there : (k : Prefix) → rank k < rank p → first_of (all_above k d.entries) ≡ first_of d.entries
  all_there k h = ap first_of (ap (all_above k) entries ∙ above_all k (all_of p w low high) (all_above_node p w low high parts k h) ∙ sym entries)

  pub first_over : (k : Prefix) (place : Place) → Stands p k place → (place ≡ OverLow) ⊎ ((place ≡ OverHigh) ⊎ (place ≡ Before)) → first_of (all_above k d.entries) ≡ first_of d.entries
  first_over k place stands (inl e) = all_there k (low_rank k p (rw e at stands))
  first_over k place stands (inr (inl e)) = all_there k (high_rank k p (rw e at stands))
  first_over k place stands (inr (inr e)) = all_there k (before_rank p k (rw e at stands))

  pub first_behind : (k : Prefix) → end_of p ≤ k.bits → first_of (all_above k d.entries) ≡ None
  first_behind k h = ap first_of (ap (all_above k) entries ∙ above_none k (all_of p w low high) (all_below p w low high parts k h))
