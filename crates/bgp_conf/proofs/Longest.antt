-- The last of the entries that cover an address is the longest.
use Rattle.std.proofs.Common.{◌≡◌, ◌≤◌, ◌<◌, ◌&&◌, ◌==◌, ℕ, ◌/◌, Bool, true, false, cond, List, [], ◌∷◌, Option, Some, None, IsSome, map, nat_le, inl, inr, refl, sym, ap, subst, ◌∙◌, arith}
use Rattle.std.proofs.lemmas.Bool.Decides.{nat_tests}
use Rattle.std.proofs.lemmas.Iterator.{items_from_drains}
use Rattle.std.proofs.lemmas.Iterator.Consumers.{YieldsList-from_first}
use Rattle.std.proofs.lemmas.Map.Entries.{lookup-filter-keys}
use Rattle.std.specs.BTreeMap.{is_at}
use Rattle.std.specs.Borrow.{Bor}
use Rattle.std.specs.Iterator.{Drains, YieldsFirstBy}
use Rattle.std.specs.List.{last_or}
use Rattle.std.specs.List.Sorted.{IsStrictlySortedBy}
use Rattle.std.specs.Option.{option_map}
use Rattle.std.specs.Ordering.{is_eq}
use Rattle.net_prefix.proofs.Covering.{covers_of_one, first_of_covered}
use Rattle.net_prefix.proofs.Ranks.{cmp_above, cmp_same, less_rank, rank}
use Rattle.net_prefix.specs.Cover.{Covers, block_size}
use Rattle.net_prefix.specs.PrefixOrder.{prefix_cmp}
use Rattle.net_prefix.specs.declared.prefix.Prefix.{Prefix}
use Rattle.prefix_trie.proofs.MapLaws.{one_prefix}
use Rattle.prefix_trie.specs.CoverWalks.{CoverWalk, all_covering, covers}
use Rattle.prefix_trie.specs.TrieMap.{IsRising, found}
use Rattle.prefix_trie.specs.TrieWalks.{seen}
use Rattle.bgp_conf.specs.Reach.{IsCost}

-- ---- the last of rising entries
last_or-map : {A B : Type 0} (f : A → B) (o : Option A) (xs : List A) → option_map f (last_or o xs) ≡ last_or (option_map f o) (map f xs)
last_or-map f o [] = refl
last_or-map f o (x ∷ xs) = last_or-map f (Some x) xs

some_last : {A : Type 0} (x : A) (xs : List A) → last_or (Some x) xs ≡ None → ⊥
some_last x [] h = absurd cc
some_last x (y ∷ xs) h = some_last y xs h

-- it is there, and no other is above it
record IsLast (es : List (Prefix × ℕ)) (e : Prefix × ℕ) : Type 0 where
  there : found es e.0 ≡ Some e.1
  most : (q : Prefix) (v : ℕ) → found es q ≡ Some v → rank q ≤ rank e.0

most_case : (q : Prefix) (v : ℕ) (x : Prefix × ℕ) (rest : Option ℕ) (top : ℕ) (b : Bool) → is_eq (prefix_cmp q x.0) ≡ b → rank x.0 ≤ top → (rest ≡ Some v → rank q ≤ top) → cond b (Some x.1) rest ≡ Some v → rank q ≤ top
most_case q v x rest top true same here more h = subst (λ (p : Prefix). rank p ≤ top) (sym (one_prefix q x.0 same)) here
most_case q v x rest top false same here more h = more h

found_first : (x : Prefix × ℕ) (es : List (Prefix × ℕ)) → found (x ∷ es) x.0 ≡ Some x.1
found_first x es = rw (cmp_same x.0) refl

IsLast-one : (x : Prefix × ℕ) → IsLast (x ∷ []) x
IsLast-one x = record {
  there = found_first x [];
  most = λ q v h. most_case q v x None (rank x.0) (is_eq (prefix_cmp q x.0)) refl (omega arith) (λ none. absurd cc) h;
}

-- behind a lower entry it stays the last
IsLast-behind : (x y e : Prefix × ℕ) (es : List (Prefix × ℕ)) → rank x.0 < rank y.0 → IsLast (y ∷ es) e → IsLast (x ∷ y ∷ es) e
IsLast-behind x y e es low more =
    let high = more.most y.0 y.1 (found_first y es) in
    record {
      there = rw (cmp_above e.0 x.0 (omega (arith, high))) more.there;
      most = λ q v at. most_case q v x (found (y ∷ es) q) (rank e.0) (is_eq (prefix_cmp q x.0)) refl (omega (arith, high)) (more.most q v) at;
    }

module _ (host : Prefix) where
  last_case : (x y e : Prefix × ℕ) (es : List (Prefix × ℕ)) (b : Bool) → rank x.0 < rank y.0 → (last_or (Some y) es ≡ Some e → IsLast (y ∷ es) e) → (last_or (Some x) es ≡ Some e → IsLast (x ∷ es) e)
      → last_or (Some x) (cond b (y ∷ es) es) ≡ Some e → IsLast (x ∷ cond b (y ∷ es) es) e
  last_case x y e es true low taken passed h = IsLast-behind x y e es low (taken h)
  last_case x y e es false low taken passed h = passed h

  last_behind : (x e : Prefix × ℕ) (es : List (Prefix × ℕ)) → IsRising (x ∷ es) → last_or (Some x) (all_covering host es) ≡ Some e → IsLast (x ∷ all_covering host es) e
  unfolding IsStrictlySortedBy
  last_behind x e [] rising h = let same : x ≡ e = cc in subst (λ (l : Prefix × ℕ). IsLast (x ∷ []) l) same (IsLast-one x)
  last_behind x e (y ∷ es) rising h =
      last_case x y e (all_covering host es) (covers y.0 host) (less_rank x.0 y.0 rising.0.0) (last_behind y e es rising.1) (last_behind x e es (rising.0.1, rising.1.1)) h

  first_case : (x e : Prefix × ℕ) (es : List (Prefix × ℕ)) (b : Bool) → (last_or (Some x) es ≡ Some e → IsLast (x ∷ es) e) → (last_or None es ≡ Some e → IsLast es e)
      → last_or None (cond b (x ∷ es) es) ≡ Some e → IsLast (cond b (x ∷ es) es) e
  first_case x e es true taken passed h = taken h
  first_case x e es false taken passed h = passed h

  last_covering : (e : Prefix × ℕ) (es : List (Prefix × ℕ)) → IsRising es → last_or None (all_covering host es) ≡ Some e → IsLast (all_covering host es) e
  unfolding IsStrictlySortedBy
  last_covering e [] rising h = absurd cc
  last_covering e (x ∷ es) rising h = first_case x e (all_covering host es) (covers x.0 host) (last_behind x e es rising) (last_covering e es rising.1) h

-- ---- the entries that cover
test_to : (a b c d : ℕ) → (nat_le a b && (c == d)) ≡ true → (a ≤ b) × (c ≡ d)
test_to a b c d h = (grind (arith, nat_tests), grind (arith, nat_tests))

test_from : (a b c d : ℕ) → a ≤ b → c ≡ d → (nat_le a b && (c == d)) ≡ true
test_from a b c d h e = grind (arith, nat_tests)

covers_to : (p q : Prefix) → covers p q ≡ true → Covers p.bits p.len q.bits q.len
covers_to p q h = test_to p.len q.len (p.bits / block_size p.len) (q.bits / block_size p.len) h

covers_from : (p q : Prefix) → Covers p.bits p.len q.bits q.len → covers p q ≡ true
covers_from p q h = test_from p.len q.len (p.bits / block_size p.len) (q.bits / block_size p.len) h.0 h.1

-- of two that cover one, the one that stands behind is no shorter
no_longer : (p q r : Prefix) → Covers p.bits p.len r.bits r.len → Covers q.bits q.len r.bits r.len → rank p ≤ rank q → p.len ≤ q.len
no_longer p q r hp hq low =
    elim (covers_of_one p q r hp hq) [
      | inl h ↦ h.0
      | inr h ↦ elim (first_of_covered q p h) [
        | inl same ↦ subst (λ (k : Prefix). k.len ≤ q.len) same (omega arith)
        | inr less ↦ let above = less_rank q p less in absurd (omega (arith, above, low))
      ]
    ]

module _ (reach : List (Prefix × ℕ)) (host : Prefix) where
  found-all_covering : (q : Prefix) → found (all_covering host reach) q ≡ cond (covers q host) (found reach q) None
  found-all_covering q =
      lookup-filter-keys (is_at (prefix_cmp q)) (λ k. covers k host) (covers q host)
      (λ k same. ap (λ (p : Prefix). covers p host) (sym (one_prefix q k same))) reach

  found_covering : (q : Prefix) → Covers q.bits q.len host.bits host.len → found (all_covering host reach) q ≡ found reach q
  found_covering q h = found-all_covering q ∙ ap (λ b. cond b (found reach q) None) (covers_from q host h)

  there_case : (q : Prefix) (v : ℕ) (b : Bool) → covers q host ≡ b → cond b (found reach q) None ≡ Some v → Covers q.bits q.len host.bits host.len × (found reach q ≡ Some v)
  there_case q v true is h = (covers_to q host is, h)
  there_case q v false is h = absurd cc

  there_covering : (q : Prefix) (v : ℕ) → found (all_covering host reach) q ≡ Some v → Covers q.bits q.len host.bits host.len × (found reach q ≡ Some v)
  there_covering q v h = there_case q v (covers q host) refl (sym (found-all_covering q) ∙ h)

  value_case : (o : Option ℕ) → IsSome o → (v : ℕ) × (o ≡ Some v)
  value_case None h = absurd cc
  value_case (Some v) h = (v, refl)

  none_case : (es : List (Prefix × ℕ)) → all_covering host reach ≡ es → last_or None es ≡ None → (q : Prefix) → IsSome (found reach q) → Covers q.bits q.len host.bits host.len → ⊥
  none_case [] is h q some covering =
      let value = value_case (found reach q) some in
      let none : found reach q ≡ None = sym (found_covering q covering) ∙ ap (λ (es : List (Prefix × ℕ)). found es q) is in
      absurd cc
  none_case (x ∷ es) is h q some covering = some_last x es h

  -- the cost of the last entry that covers an address
  cost_case : (o : Option (Prefix × ℕ)) → host.len ≡ 32 → IsRising reach → last_or None (all_covering host reach) ≡ o → IsCost reach host.bits (option_map (λ e. e.1) o)
  cost_case None whole rising h = λ q covering. none_case (all_covering host reach) refl h q covering.0 (rw whole covering.1)
  cost_case (Some e) whole rising h =
      let last = last_covering host e reach rising h in
      let here = there_covering e.0 e.1 last.there in (
        e.0,
        here.1,
        rw whole at here.0,
        λ q covering.
            let value = value_case (found reach q) covering.0 in
            let covers_host : Covers q.bits q.len host.bits host.len = rw whole covering.1 in
            no_longer q e.0 host covers_host here.0 (last.most q value.0 (found_covering q covers_host ∙ value.1)),
      )

cost_seen : (last : Option (Prefix × Bor ℕ)) → option_map (λ e. e.1) (option_map (seen {V = ℕ}) last) ≡ option_map (λ e. e.1.now) last
cost_seen None = refl
cost_seen (Some e) = refl

-- the prefix of an address alone
abbrev pub host_of : ℕ → Prefix
host_of address = record { bits = address; len = 32; short = omega arith; no_host_bits = omega arith }

-- the cost of the last entry of a walk to those that cover an address
pub IsCost-last : (reach : List (Prefix × ℕ)) (address : ℕ) (walk : CoverWalk ℕ) (last : Option (Prefix × Bor ℕ)) → IsRising reach → walk.left ≡ all_covering (host_of address) reach
    → ((xs : List (Prefix × Bor ℕ)) × Drains (YieldsFirstBy (seen {V = ℕ}) (λ (w : CoverWalk ℕ). w.left)) walk xs × (last ≡ last_or None xs))
    → IsCost reach address (option_map (λ e. e.1.now) last)
IsCost-last reach address walk last rising left ran =
    let covering = all_covering (host_of address) reach in
    let walked = YieldsList-from_first (seen {V = ℕ}) (λ (w : CoverWalk ℕ). w.left) covering left in
    let all : map (seen {V = ℕ}) ran.0 ≡ covering = items_from_drains ran.0 (ran.1.1.0, ran.1.1.1, λ _. (ran.1.0, ran.1.1.2)) walked in
    let is : option_map (seen {V = ℕ}) last ≡ last_or None covering = ap (option_map (seen {V = ℕ})) ran.2 ∙ last_or-map (seen {V = ℕ}) None ran.0 ∙ ap (last_or None) all in
    subst (IsCost reach address) (cost_seen last) (cost_case reach (host_of address) (option_map (seen {V = ℕ}) last) refl rising (sym is))
