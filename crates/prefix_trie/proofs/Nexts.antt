-- Behind the first of the entries above a prefix come those above it.
use Rattle.std.proofs.Common.{◌≡◌, ◌<◌, cond, List, [], ◌∷◌, Option, None, Some, option_map, refl, sym, ap, subst, ◌∙◌, arith}
use Rattle.std.specs.Borrow.{Bor}
use Rattle.std.specs.List.{AllByRecursion}
use Rattle.std.specs.List.Sorted.{IsStrictlySortedBy}
use Rattle.std.specs.Map.{keys_of}
use Rattle.std.specs.Ordering.{is_lt}
use Rattle.std.specs.declared.cmp.Ordering.{Ordering}
use Rattle.std.specs.declared.cmp.Ordering.TheVariants.{Less, Equal, Greater}
use Rattle.net_prefix.specs.PrefixOrder.{prefix_cmp}
use Rattle.net_prefix.specs.declared.prefix.Prefix.{Prefix}
use Rattle.prefix_trie.specs.Nodes.{EachIs, IsTrie, shape}
use Rattle.prefix_trie.specs.Shape.{Shape}
use Rattle.prefix_trie.specs.declared.node.Link.{Link}
use Rattle.prefix_trie.specs.declared.node.Link.TheVariants.{Empty, Fork}
use Rattle.prefix_trie.specs.TrieMap.{IsRising}
use Rattle.prefix_trie.specs.TrieWalks.{IsNext, all_above, all_after, first_of, seen}
use Rattle.prefix_trie.proofs.EntryLists.{AreAbove, each_kept, each_weaker}
use Rattle.prefix_trie.proofs.Firsts.{above_all}
use Rattle.net_prefix.proofs.Ranks.{rank, cmp_above, cmp_same, less_rank}

module _ {V : Type 0} where
  head_of : (x y : Prefix × V) (xs ys : List (Prefix × V)) → x ∷ xs ≡ y ∷ ys → x ≡ y
  head_of x y xs ys e = cc

  tail_of : (x y : Prefix × V) (xs ys : List (Prefix × V)) → x ∷ xs ≡ y ∷ ys → xs ≡ ys
  tail_of x y xs ys e = cc

  -- what rises behind an entry is above it
  rising_above : (x : Prefix) (es : List (Prefix × V)) → AllByRecursion (λ y. prefix_cmp x y ≡ Less) (keys_of es) → AreAbove x es
  rising_above x [] h = tt
  rising_above x (y ∷ es) h = (less_rank x y.0 h.0, rising_above x es h.1)

  above_first : (x : Prefix × V) (es : List (Prefix × V)) → AreAbove x.0 es → all_above x.0 (x ∷ es) ≡ es
  above_first x es h = rw (cmp_same x.0) (above_all x.0 es h)

  passed : (e x : Prefix × V) (es : List (Prefix × V)) → rank x.0 < rank e.0 → all_above e.0 (x ∷ es) ≡ all_above e.0 es
  passed e x es h = rw (cmp_above e.0 x.0 h) refl

  head_is : (P : Prefix → Type 0) (e : Prefix × V) (t es : List (Prefix × V)) → es ≡ e ∷ t → EachIs P es → P e.0
  head_is P e t es is h = (rw is at h).0

  rest_case : (k : Prefix) (e x : Prefix × V) (t es : List (Prefix × V)) (r : Ordering) → prefix_cmp k x.0 ≡ r → AreAbove x.0 es
      → (all_above k es ≡ e ∷ t → all_above e.0 es ≡ t)
      → cond (is_lt r) (x ∷ all_above k es) (all_above k es) ≡ e ∷ t → all_above e.0 (x ∷ es) ≡ t
  rest_case k e x t es Less is above more h =
      let below = less_rank k x.0 is in
      let all = above_all k es (each_weaker (λ q. rank x.0 < rank q) (λ q. rank k < rank q) (λ q i. omega arith) es above) in
      let first = head_of x e (all_above k es) t h in
      ap (λ (y : Prefix × V). all_above y.0 (x ∷ es)) (sym first) ∙ above_first x es above ∙ sym all ∙ tail_of x e (all_above k es) t h
  rest_case k e x t es Equal is above more h =
      passed e x es (head_is (λ q. rank x.0 < rank q) e t (all_above k es) h (each_kept (λ q. rank x.0 < rank q) _ es above)) ∙ more h
  rest_case k e x t es Greater is above more h =
      passed e x es (head_is (λ q. rank x.0 < rank q) e t (all_above k es) h (each_kept (λ q. rank x.0 < rank q) _ es above)) ∙ more h

  rest_above : (k : Prefix) (e : Prefix × V) (t es : List (Prefix × V)) → IsRising es → all_above k es ≡ e ∷ t → all_above e.0 es ≡ t
  unfolding IsStrictlySortedBy
  rest_above k e t [] rising h = absurd cc
  rest_above k e t (x ∷ es) rising h = rest_case k e x t es (prefix_cmp k x.0) refl (rising_above x.0 es rising.0) (rest_above k e t es rising.1) h

  rest_first : (e : Prefix × V) (t es : List (Prefix × V)) → IsRising es → es ≡ e ∷ t → all_above e.0 es ≡ t
  unfolding IsStrictlySortedBy
  rest_first e t [] rising h = absurd cc
  rest_first e t (x ∷ es) rising h =
      ap (λ (y : Prefix × V). all_above y.0 (x ∷ es)) (sym (head_of x e es t h)) ∙ above_first x es (rising_above x.0 es rising.0) ∙ tail_of x e es t h

  rest_after : (k : Option Prefix) (e : Prefix × V) (t es : List (Prefix × V)) → IsRising es → all_after k es ≡ e ∷ t → all_above e.0 es ≡ t
  rest_after None e t es rising h = rest_first e t es rising h
  rest_after (Some k) e t es rising h = rest_above k e t es rising h

  pub none_case : (es : List (Prefix × V)) → None ≡ first_of es → es ≡ []
  none_case [] h = refl
  none_case (e ∷ es) h = absurd cc

  pub some_case : (k : Option Prefix) (e : Prefix × V) (es l : List (Prefix × V)) → IsRising es → all_after k es ≡ l → Some e ≡ first_of l → l ≡ e ∷ all_above e.0 es
  some_case k e es [] rising is h = absurd cc
  some_case k e es (y ∷ t) rising is h =
      let same : y ≡ e = cc in
      let head : y ∷ t ≡ e ∷ t = ap (λ (z : Prefix × V). z ∷ t) same in
      head ∙ ap (λ (l : List (Prefix × V)). e ∷ l) (sym (rest_after k e t es rising (is ∙ head)))

  -- the first entry above a prefix, or of all
  pub is_next : (k : Option Prefix) (es : List (Prefix × V)) (r : Option (Prefix × Bor V)) → IsRising es → option_map seen r ≡ first_of (all_after k es) → IsNext r k es
  is_next k es None rising h = none_case (all_after k es) h
  is_next k es (Some e) rising h = some_case k (seen e) es (all_after k es) rising refl h

rising_shape : {V A : Type 0} (l : Link V A) → IsTrie l → IsRising (shape l).entries
unfolding IsStrictlySortedBy
rising_shape Empty h = tt
rising_shape (Fork n) h = h.rising

-- the entries of a part of a trie rise
pub rising_at : {V A : Type 0} (l : Link V A) {d : Shape V} → shape l ≡ d → IsTrie l → IsRising d.entries
rising_at l {d} view_is invariant = subst (λ (s : Shape _). IsRising s.entries) view_is (rising_shape l invariant)
