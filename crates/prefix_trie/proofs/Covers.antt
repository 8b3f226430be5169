-- Which prefixes cover one, and which it covers, by where they stand.
use Rattle.std.proofs.Common.{◌≡◌, ℕ, ◌*◌, ◌/◌, ◌<◌, ◌≤◌, ◌++◌, ◌&&◌, ◌==◌, ◌⊎◌, inl, inr, Bool, true, false, nat_le, List, [], ◌∷◌, Option, None, Some, refl, sym, ap, ◌∙◌, append-nil, arith}
use Rattle.std.proofs.lemmas.Bool.Decides.{nat_tests}
use Rattle.std.proofs.lemmas.List.Elements.{filter-append}
use Rattle.std.proofs.lemmas.Nat.{div-add-mod'}
use Rattle.std.proofs.Math.Nat.{div-mul-le_self, lt-div-mul-add}
use Rattle.net_prefix.specs.Cover.{block_size}
use Rattle.net_prefix.specs.declared.prefix.Prefix.{Prefix}
use Rattle.prefix_trie.specs.CoverWalks.{all_covering, covers}
use Rattle.prefix_trie.specs.Nodes.{here, all_of, AreParts, EachIs}
use Rattle.prefix_trie.specs.Places.{IsInside, IsLow, IsHigh, Stands, end_of}
use Rattle.prefix_trie.specs.Shape.{Shape}
use Rattle.prefix_trie.specs.declared.places.Place.{Place}
use Rattle.prefix_trie.specs.declared.places.Place.TheVariants.{OverLow, OverHigh, Before, Behind}
use Rattle.net_prefix.proofs.Blocks.{block_pos, divided}
use Rattle.prefix_trie.proofs.Blocks.{low_inside, high_inside}
use Rattle.prefix_trie.proofs.EntryLists.{each_append, each_weaker}

both : (a b c d : ℕ) → a ≤ b → c ≡ d → (nat_le a b && (c == d)) ≡ true
both a b c d h e = grind (arith, nat_tests)

too_long : (a b : ℕ) (t : Bool) → b < a → (nat_le a b && t) ≡ false
too_long a b t h = let e : nat_le a b ≡ false = grind (arith, nat_tests) in rw e refl

other_block : (t : Bool) (c d : ℕ) → (c ≡ d → ⊥) → (t && (c == d)) ≡ false
other_block true c d h = grind (arith, nat_tests)
other_block false c d h = refl

whole_bits : (p : Prefix) → p.bits / block_size p.len * block_size p.len ≡ p.bits
whole_bits p = let parts = div-add-mod' p.bits (block_size p.len) in let none = p.no_host_bits in omega arith

-- a prefix lies in itself
pub itself : (p : Prefix) → IsInside p.bits p.len p
itself p = record { long = omega arith; from = omega arith; to = omega arith }

-- a prefix covers what lies in it
pub covers_inside : (p q : Prefix) → IsInside p.bits p.len q → covers p q ≡ true
covers_inside p q h =
    let at = whole_bits p in
    let some = block_pos q.len in
    both p.len q.len _ _ h.long (sym (divided (p.bits / block_size p.len) (block_size p.len) q.bits (omega (arith, h.from)) (omega (arith, h.to))))

pub covers_longer : (p q : Prefix) → q.len < p.len → covers p q ≡ false
covers_longer p q h = too_long p.len q.len _ h

pub covers_before : (p q : Prefix) → q.bits < p.bits → covers p q ≡ false
covers_before p q h = other_block (nat_le p.len q.len) _ _ (λ e.
    let at = whole_bits p in
    let low = div-mul-le_self q.bits (block_size p.len) in
    let low_again = rw (sym e) at low in
    absurd (omega (arith, low_again, at)))

pub covers_behind : (p q : Prefix) → end_of p ≤ q.bits → covers p q ≡ false
covers_behind p q h = other_block (nat_le p.len q.len) _ _ (λ e.
    let at = whole_bits p in
    let high = lt-div-mul-add {a = q.bits} {b = block_size p.len} (block_pos p.len) in
    let high_again = rw (sym e) at high in
    absurd (omega (arith, high_again, at)))

module _ {V : Type 0} where
  pub covering_none : (k : Prefix) (es : List (Prefix × V)) → EachIs (λ q. covers q k ≡ false) es → all_covering k es ≡ []
  covering_none k [] h = refl
  covering_none k (e ∷ es) h = rw h.0 (covering_none k es h.1)

  covering_append : (k : Prefix) (xs ys : List (Prefix × V)) → all_covering k (xs ++ ys) ≡ all_covering k xs ++ all_covering k ys
  covering_append k xs ys = filter-append (λ e. covers e.0 k) xs ys

  covering_here : (k p : Prefix) (w : Option V) → covers p k ≡ true → all_covering k (here p w) ≡ here p w
  covering_here k p None h = refl
  covering_here k p (Some v) h = rw h refl

module _ {V : Type 0} (d : Shape V) (p : Prefix) (w : Option V) (low high : Shape V) (entries : d.entries ≡ all_of p w low high) (parts : AreParts p w low high) where
  split : (k : Prefix) → all_covering k d.entries ≡ all_covering k (here p w) ++ (all_covering k low.entries ++ all_covering k high.entries)
  split k = ap (all_covering k) entries ∙ covering_append k (here p w) (low.entries ++ high.entries) ∙ ap (λ es. all_covering k (here p w) ++ es) (covering_append k low.entries high.entries)

  none_low : (k : Prefix) → ((q : Prefix) → IsLow p q → covers q k ≡ false) → all_covering k low.entries ≡ []
  none_low k f = covering_none k low.entries (each_weaker (IsLow p) (λ q. covers q k ≡ false) f low.entries parts.low_entries)

  none_high : (k : Prefix) → ((q : Prefix) → IsHigh p q → covers q k ≡ false) → all_covering k high.entries ≡ []
  none_high k f = covering_none k high.entries (each_weaker (IsHigh p) (λ q. covers q k ≡ false) f high.entries parts.high_entries)

  -- at the places of a node
  pub covering_low : (k : Prefix) → IsLow p k → all_covering k d.entries ≡ here p w ++ all_covering k low.entries
  covering_low k at =
      split k ∙ rw (
        covering_here k p w (covers_inside p k (low_inside p k p.bits p.len (itself p) at)),
        none_high k (λ q i. covers_before q k (let some = block_pos k.len in omega (arith, at.to, i.from))),
        append-nil (all_covering k low.entries),
      ) refl

  pub covering_high : (k : Prefix) → IsHigh p k → all_covering k d.entries ≡ here p w ++ all_covering k high.entries
  covering_high k at =
      split k ∙ rw (
        covering_here k p w (covers_inside p k (high_inside p k p.bits p.len (itself p) at)),
        none_low k (λ q i. covers_behind q k (omega (arith, i.to, at.from))),
      ) refl

  pub covering_same : all_covering p d.entries ≡ here p w
  covering_same =
      split p ∙ rw (covering_here p p w (covers_inside p p (itself p)), none_low p (λ q i. covers_longer q p (omega (arith, i.long))), none_high p (λ q i. covers_longer q p (omega (arith, i.long)))) (append-nil (here p w))

  here_inside : (u : Option V) → EachIs (IsInside p.bits p.len) (here p u)
  here_inside None = tt
  here_inside (Some v) = (itself p, tt)

  pub all_inside : EachIs (IsInside p.bits p.len) (all_of p w low high)
  all_inside = each_append (IsInside p.bits p.len) (here p w) (low.entries ++ high.entries) (here_inside w)
      (each_append (IsInside p.bits p.len) low.entries high.entries
      (each_weaker (IsLow p) (IsInside p.bits p.len) (λ q i. low_inside p q p.bits p.len (itself p) i) low.entries parts.low_entries)
      (each_weaker (IsHigh p) (IsInside p.bits p.len) (λ q i. high_inside p q p.bits p.len (itself p) i) high.entries parts.high_entries))

  none_at : (k : Prefix) → ((q : Prefix) → IsInside p.bits p.len q → covers q k ≡ false) → all_covering k d.entries ≡ []
  none_at k f = ap (all_covering k) entries ∙ covering_none k (all_of p w low high) (each_weaker (IsInside p.bits p.len) (λ q. covers q k ≡ false) f (all_of p w low high) all_inside)

  pub covering_outside : (k : Prefix) (place : Place) → Stands p k place → (place ≡ OverLow) ⊎ ((place ≡ OverHigh) ⊎ ((place ≡ Before) ⊎ (place ≡ Behind))) → all_covering k d.entries ≡ []
  covering_outside k place stands (inl e) = let at = rw e at stands in none_at k (λ q i. covers_longer q k (omega (arith, at.long, i.long)))
  covering_outside k place stands (inr (inl e)) = let at = rw e at stands in none_at k (λ q i. covers_longer q k (omega (arith, at.long, i.long)))
  covering_outside k place stands (inr (inr (inl e))) = let at = rw e at stands in none_at k (λ q i. covers_before q k (let some = block_pos k.len in omega (arith, i.from)))
  covering_outside k place stands (inr (inr (inr e))) = let at = rw e at stands in none_at k (λ q i. covers_behind q k (omega (arith, i.to)))
