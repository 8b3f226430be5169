-- Which prefixes one covers, by where they stand.
use Rattle.std.proofs.Common.{◌≡◌, ◌++◌, ◌⊎◌, inl, inr, true, false, List, [], ◌∷◌, Option, None, Some, refl, sym, ap, ◌∙◌, append-nil, arith}
use Rattle.std.proofs.lemmas.List.Elements.{filter-append}
use Rattle.net_prefix.specs.declared.prefix.Prefix.{Prefix}
use Rattle.prefix_trie.specs.CoverWalks.{all_covered, covers}
use Rattle.prefix_trie.specs.Nodes.{here, all_of, AreParts, EachIs}
use Rattle.prefix_trie.specs.Places.{IsInside, IsLow, IsHigh, Stands}
use Rattle.prefix_trie.specs.Shape.{Shape}
use Rattle.prefix_trie.specs.declared.places.Place.{Place}
use Rattle.prefix_trie.specs.declared.places.Place.TheVariants.{Same, OverLow, OverHigh, Before, Behind}
use Rattle.net_prefix.proofs.Blocks.{block_pos}
use Rattle.prefix_trie.proofs.Blocks.{low_inside, high_inside}
use Rattle.prefix_trie.proofs.Covers.{all_inside, covers_before, covers_behind, covers_inside, covers_longer, itself}
use Rattle.prefix_trie.proofs.EntryLists.{each_weaker}

-- what lies in a prefix that lies in another lies in that one
within : (k p q : Prefix) → IsInside k.bits k.len p → IsInside p.bits p.len q → IsInside k.bits k.len q
within k p q outer inner = record { long = omega (arith, outer.long, inner.long); from = omega (arith, outer.from, inner.from); to = omega (arith, outer.to, inner.to) }

module _ {V : Type 0} where
  covered_none : (k : Prefix) (es : List (Prefix × V)) → EachIs (λ q. covers k q ≡ false) es → all_covered k es ≡ []
  covered_none k [] h = refl
  covered_none k (e ∷ es) h = rw h.0 (covered_none k es h.1)

  covered_all : (k : Prefix) (es : List (Prefix × V)) → EachIs (λ q. covers k q ≡ true) es → all_covered k es ≡ es
  covered_all k [] h = refl
  covered_all k (e ∷ es) h = rw h.0 (ap (λ l. e ∷ l) (covered_all k es h.1))

  covered_append : (k : Prefix) (xs ys : List (Prefix × V)) → all_covered k (xs ++ ys) ≡ all_covered k xs ++ all_covered k ys
  covered_append k xs ys = filter-append (λ e. covers k e.0) xs ys

  covered_here : (k p : Prefix) (w : Option V) → covers k p ≡ false → all_covered k (here p w) ≡ []
  covered_here k p None h = refl
  covered_here k p (Some v) h = rw h refl

module _ {V : Type 0} (d : Shape V) (p : Prefix) (w : Option V) (low high : Shape V) (entries : d.entries ≡ all_of p w low high) (parts : AreParts p w low high) where
  split : (k : Prefix) → all_covered k d.entries ≡ all_covered k (here p w) ++ (all_covered k low.entries ++ all_covered k high.entries)
  split k = ap (all_covered k) entries ∙ covered_append k (here p w) (low.entries ++ high.entries) ∙ ap (λ es. all_covered k (here p w) ++ es) (covered_append k low.entries high.entries)

  none_low : (k : Prefix) → ((q : Prefix) → IsLow p q → covers k q ≡ false) → all_covered k low.entries ≡ []
  none_low k f = covered_none k low.entries (each_weaker (IsLow p) (λ q. covers k q ≡ false) f low.entries parts.low_entries)

  none_high : (k : Prefix) → ((q : Prefix) → IsHigh p q → covers k q ≡ false) → all_covered k high.entries ≡ []
  none_high k f = covered_none k high.entries (each_weaker (IsHigh p) (λ q. covers k q ≡ false) f high.entries parts.high_entries)

  -- at the places of a node
  pub covered_low : (k : Prefix) → IsLow p k → all_covered k d.entries ≡ all_covered k low.entries
  covered_low k at =
      split k ∙ rw (
        covered_here k p w (covers_longer k p (omega (arith, at.long))),
        none_high k (λ q i. covers_behind k q (omega (arith, at.to, i.from))),
      ) (append-nil (all_covered k low.entries))

  pub covered_high : (k : Prefix) → IsHigh p k → all_covered k d.entries ≡ all_covered k high.entries
  covered_high k at =
      split k ∙ rw (
        covered_here k p w (covers_longer k p (omega (arith, at.long))),
        none_low k (λ q i. covers_before k q (let some = block_pos q.len in omega (arith, i.to, at.from))),
      ) refl

  whole_at : (k : Prefix) → IsInside k.bits k.len p → all_covered k d.entries ≡ d.entries
  whole_at k at =
      ap (all_covered k) entries ∙ covered_all k (all_of p w low high) (each_weaker (IsInside p.bits p.len) (λ q. covers k q ≡ true) (λ q i. covers_inside k q (within k p q at i)) (all_of p w low high) (all_inside d p w low high entries parts)) ∙ sym entries

  pub covered_over : (k : Prefix) (place : Place) → Stands p k place → (place ≡ Same) ⊎ ((place ≡ OverLow) ⊎ (place ≡ OverHigh)) → all_covered k d.entries ≡ d.entries
  covered_over k place stands (inl e) = let at = rw e at stands in whole_at k (rw at (itself p))
  covered_over k place stands (inr (inl e)) = whole_at k (low_inside k p k.bits k.len (itself k) (rw e at stands))
  covered_over k place stands (inr (inr e)) = whole_at k (high_inside k p k.bits k.len (itself k) (rw e at stands))

  none_at : (k : Prefix) → ((q : Prefix) → IsInside p.bits p.len q → covers k q ≡ false) → all_covered k d.entries ≡ []
  none_at k f = ap (all_covered k) entries ∙ covered_none k (all_of p w low high) (each_weaker (IsInside p.bits p.len) (λ q. covers k q ≡ false) f (all_of p w low high) (all_inside d p w low high entries parts))

  pub covered_outside : (k : Prefix) (place : Place) → Stands p k place → (place ≡ Before) ⊎ (place ≡ Behind) → all_covered k d.entries ≡ []
  covered_outside k place stands (inl e) = let at = rw e at stands in none_at k (λ q i. covers_behind k q (omega (arith, i.from)))
  covered_outside k place stands (inr e) = let at = rw e at stands in none_at k (λ q i. covers_before k q (let some = block_pos q.len in omega (arith, i.to)))
