-- Behind which lengths the entries of a node part from a prefix.
use Rattle.std.proofs.Common.{Box, ◌≡◌, ℕ, zero, suc, ◌+◌, ◌*◌, ◌/◌, ◌%◌, ◌<◌, ◌≤◌, ◌++◌, ◌&&◌, ◌||◌, ◌==◌, ◌⊎◌, inl, inr, Bool, true, false, cond, not, nat_le, List, [], ◌∷◌, Option, None, Some, filter, length, refl, sym, ap, ◌∙◌, arith}
use Rattle.std.proofs.Math.Nat.{add-mod_right, div-div-eq-div-mul, div-mul-le_self, lt-div-mul-add, mul-mod_left}
use Rattle.std.proofs.lemmas.Bool.{cases_lt}
use Rattle.std.proofs.lemmas.Bool.Decides.{nat_tests}
use Rattle.std.proofs.lemmas.List.Folds.{list_any-append}
use Rattle.std.specs.List.{list_any, range_with_len}
use Rattle.net_prefix.specs.Cover.{block_size}
use Rattle.net_prefix.specs.declared.prefix.Prefix.{Prefix}
use Rattle.prefix_trie.specs.CoverWalks.{nodes_towards, part_behind, share_bits}
use Rattle.prefix_trie.specs.Nodes.{here, all_of, shape, AreParts, EachIs}
use Rattle.prefix_trie.specs.Places.{IsInside, IsLow, IsHigh, Stands, end_of, middle}
use Rattle.prefix_trie.specs.Shape.{Shape}
use Rattle.prefix_trie.specs.declared.node.Link.{Link}
use Rattle.prefix_trie.specs.declared.node.Link.TheVariants.{Empty, Fork}
use Rattle.prefix_trie.specs.declared.node.Node.{Node}
use Rattle.prefix_trie.specs.declared.places.Place.{Place}
use Rattle.prefix_trie.specs.declared.places.Place.TheVariants.{OverLow, OverHigh, Before, Behind}
use Rattle.net_prefix.proofs.Blocks.{block_pos, divided, finer, halves, room}
use Rattle.prefix_trie.proofs.Blocks.{bits_whole, end_whole, low_inside, high_inside, middle_whole}
use Rattle.prefix_trie.proofs.Changes.{some_all}
use Rattle.prefix_trie.proofs.Covers.{all_inside, itself}
use Rattle.prefix_trie.proofs.EntryLists.{each_append, each_weaker}

-- what lies in a block has the first bits of the block
same_number : (base len l : ℕ) (q : Prefix) → base % block_size len ≡ 0 → IsInside base len q → l ≤ len → q.bits / block_size l ≡ base / block_size l
same_number base len l q whole_base h le =
    let low = div-mul-le_self base (block_size l) in
    let high = lt-div-mul-add {a = base} {b = block_size l} (block_pos l) in
    let top = finer l len (base / block_size l * block_size l + block_size l) le (add-mod_right (base / block_size l * block_size l) (block_size l) ∙ mul-mod_left (base / block_size l) (block_size l)) in
    let fits = room (block_size len) base (base / block_size l * block_size l + block_size l) whole_base top high in
    let some = block_pos q.len in
    divided (base / block_size l) (block_size l) q.bits (omega (arith, h.from)) (omega (arith, h.to))

-- addresses on both sides of a multiple of a block are in two blocks
other_number : (x y m l : ℕ) → m % block_size l ≡ 0 → x < m → m ≤ y → x / block_size l ≡ y / block_size l → ⊥
other_number x y m l whole_m below above e =
    let low = div-mul-le_self x (block_size l) in
    let fits = room (block_size l) (x / block_size l * block_size l) m (mul-mod_left (x / block_size l) (block_size l)) whole_m (omega arith) in
    let high = lt-div-mul-add {a = y} {b = block_size l} (block_pos l) in
    let same : x / block_size l * block_size l ≡ y / block_size l * block_size l = ap (λ n. n * block_size l) e in
    absurd (omega (arith, high, same))

-- the test of shared bits
pub test_yes : (l a b x y : ℕ) → l ≤ a → l ≤ b → x ≡ y → (l == 0 || (nat_le l a && (nat_le l b && (x == y)))) ≡ true
test_yes l a b x y ha hb e = grind (arith, nat_tests)

pub test_short : (l a b x y : ℕ) → a < l → (l == 0 || (nat_le l a && (nat_le l b && (x == y)))) ≡ false
test_short l a b x y h = grind (arith, nat_tests)

pub test_short_2 : (l a b x y : ℕ) → b < l → (l == 0 || (nat_le l a && (nat_le l b && (x == y)))) ≡ false
test_short_2 l a b x y h = grind (arith, nat_tests)

pub test_other : (l a b x y : ℕ) → 0 < l → (x ≡ y → ⊥) → (l == 0 || (nat_le l a && (nat_le l b && (x == y)))) ≡ false
test_other l a b x y h n = grind (arith, nat_tests)

test_same : (l a b c x y z : ℕ) → l ≤ b → l ≤ c → y ≡ z → (l == 0 || (nat_le l a && (nat_le l b && (x == y)))) ≡ (l == 0 || (nat_le l a && (nat_le l c && (x == z))))
test_same l a b c x y z hb hc e =
    let eb : nat_le l b ≡ true = grind (arith, nat_tests) in
    let ec : nat_le l c ≡ true = grind (arith, nat_tests) in
    rw (eb, ec, e) refl

pub test_parts : (l a b x y : ℕ) → 0 < l → (l == 0 || (nat_le l a && (nat_le l b && (x == y)))) ≡ true → (l ≤ a) × (l ≤ b) × (x ≡ y)
test_parts l a b x y pos h = (grind (arith, nat_tests), grind (arith, nat_tests), grind (arith, nat_tests))

-- the prefix shares as many bits with the third as with the second
abbrev pub SharesAs : Prefix → Prefix → Prefix → Type 0
SharesAs k p q = (l : ℕ) → share_bits l k q ≡ share_bits l k p

-- what lies in a node's prefix does so, if it shares no more than the node can
shares_as : (k p q : Prefix) → IsInside p.bits p.len q → ((l : ℕ) → p.len < l → share_bits l k q ≡ false) → SharesAs k p q
shares_as k p q at far = λ l. elim (cases_lt p.len l) [
  | inl h ↦ far l h ∙ sym (test_short_2 l k.len p.len (k.bits / block_size l) (p.bits / block_size l) h)
  | inr h ↦ test_same l k.len q.len p.len (k.bits / block_size l) (q.bits / block_size l) (p.bits / block_size l) (omega (arith, at.long)) h (same_number p.bits p.len l q p.no_host_bits at h)
]

shares_high : (k p q : Prefix) → IsLow p k → IsHigh p q → SharesAs k p q
shares_high k p q at i = shares_as k p q (high_inside p q p.bits p.len (itself p) i) (λ l h.
    let some = block_pos k.len in
    test_other l k.len q.len (k.bits / block_size l) (q.bits / block_size l) (omega arith) (other_number k.bits q.bits (middle p) l (middle_whole p l (omega arith)) (omega (arith, at.to)) i.from))

shares_low : (k p q : Prefix) → IsHigh p k → IsLow p q → SharesAs k p q
shares_low k p q at i = shares_as k p q (low_inside p q p.bits p.len (itself p) i) (λ l h.
    let some = block_pos q.len in
    test_other l k.len q.len (k.bits / block_size l) (q.bits / block_size l) (omega arith) (λ e. other_number q.bits k.bits (middle p) l (middle_whole p l (omega arith)) (omega (arith, i.to)) at.from (sym e)))

shares_short : (k p q : Prefix) → k.len ≤ p.len → IsInside p.bits p.len q → SharesAs k p q
shares_short k p q short i = shares_as k p q i (λ l h. test_short l k.len q.len (k.bits / block_size l) (q.bits / block_size l) (omega arith))

shares_before : (k p q : Prefix) → end_of k ≤ p.bits → IsInside p.bits p.len q → SharesAs k p q
shares_before k p q before i = shares_as k p q i (λ l h.
    let some = block_pos k.len in
    test_other l k.len q.len (k.bits / block_size l) (q.bits / block_size l) (omega arith) (other_number k.bits q.bits p.bits l (bits_whole p l (omega arith)) (omega arith) i.from))

shares_behind : (k p q : Prefix) → end_of p ≤ k.bits → IsInside p.bits p.len q → SharesAs k p q
shares_behind k p q behind i = shares_as k p q i (λ l h.
    let some = block_pos q.len in
    test_other l k.len q.len (k.bits / block_size l) (q.bits / block_size l) (omega arith) (λ e. other_number q.bits k.bits (end_of p) l (end_whole p l (omega arith)) (omega (arith, i.to)) behind (sym e)))

part_as : (k p q : Prefix) → SharesAs k p q → (l : ℕ) → part_behind l k q ≡ part_behind l k p
part_as k p q h l = ap (λ b. b && not (share_bits (l + 1) k q)) (h l) ∙ ap (λ b. share_bits l k p && not b) (h (l + 1))

and_false : (a b : Bool) → b ≡ true → (a && not b) ≡ false
and_false true b e = rw e refl
and_false false b e = refl

-- they part behind the length of a node's prefix that covers the first, and behind no other
inside_shares : (k p : Prefix) (l : ℕ) → IsInside p.bits p.len k → l ≤ p.len → share_bits l k p ≡ true
inside_shares k p l at h = test_yes l k.len p.len (k.bits / block_size l) (p.bits / block_size l) (omega (arith, at.long)) h (same_number p.bits p.len l k p.no_host_bits at h)

part_here : (k p : Prefix) → IsInside p.bits p.len k → part_behind p.len k p ≡ true
part_here k p at =
    ap (λ b. b && not (share_bits (p.len + 1) k p)) (inside_shares k p p.len at (omega arith))
    ∙ ap (λ b. not b) (test_short_2 (p.len + 1) k.len p.len (k.bits / block_size (p.len + 1)) (p.bits / block_size (p.len + 1)) (omega arith))

part_elsewhere : (k p : Prefix) (l : ℕ) → IsInside p.bits p.len k → (l ≡ p.len → ⊥) → part_behind l k p ≡ false
part_elsewhere k p l at other = elim (cases_lt p.len l) [
  | inl h ↦ ap (λ b. b && not (share_bits (l + 1) k p)) (test_short_2 l k.len p.len (k.bits / block_size l) (p.bits / block_size l) h)
  | inr h ↦ elim (cases_lt l p.len) [
    | inl h ↦ and_false (share_bits l k p) (share_bits (l + 1) k p) (inside_shares k p (l + 1) at (omega arith))
    | inr g ↦ absurd (other (omega arith))
  ]
]

-- they share fewer bits where they share some
pub fewer : (k p : Prefix) (l : ℕ) → share_bits (l + 1) k p ≡ true → share_bits l k p ≡ true
fewer k p zero h = refl
fewer k p (suc l) h =
    let parts = test_parts (suc l + 1) k.len p.len (k.bits / block_size (suc l + 1)) (p.bits / block_size (suc l + 1)) (omega arith) h in
    let short = p.short in
    let two : block_size (suc l + 1) * 2 ≡ block_size (suc l) = omega (arith, halves (suc l) (omega (arith, parts.1))) in
    let half : (x : ℕ) → x / block_size (suc l) ≡ x / block_size (suc l + 1) / 2 = λ x. ap (λ n. x / n) (sym two) ∙ sym (div-div-eq-div-mul x (block_size (suc l + 1)) 2) in
    test_yes (suc l) k.len p.len (k.bits / block_size (suc l)) (p.bits / block_size (suc l)) (omega (arith, parts.0)) (omega (arith, parts.1)) (half k.bits ∙ ap (λ n. n / 2) parts.2 ∙ sym (half p.bits))

-- how many numbers of a row pass a test
abbrev pub passing : (ℕ → Bool) → ℕ → ℕ → ℕ
passing f a n = length (filter f (range_with_len a n))

same_case : (b c : Bool) (a : ℕ) (xs ys : List ℕ) → b ≡ c → length xs ≡ length ys → length (cond b (a ∷ xs) xs) ≡ length (cond c (a ∷ ys) ys)
same_case true c a xs ys e h = rw (sym e) (ap (λ n. suc n) h)
same_case false c a xs ys e h = rw (sym e) h

more_case : (b c : Bool) (a : ℕ) (xs ys : List ℕ) → b ≡ c → length xs ≡ 1 + length ys → length (cond b (a ∷ xs) xs) ≡ 1 + length (cond c (a ∷ ys) ys)
more_case true c a xs ys e h = rw (sym e) (omega (arith, h))
more_case false c a xs ys e h = rw (sym e) h

as_many : (f g : ℕ → Bool) (a n : ℕ) → ((l : ℕ) → a ≤ l → f l ≡ g l) → passing f a n ≡ passing g a n
as_many f g a zero h = refl
as_many f g a (suc n) h = same_case (f a) (g a) a (filter f (range_with_len (a + 1) n)) (filter g (range_with_len (a + 1) n)) (h a (omega arith)) (as_many f g (a + 1) n (λ l le. h l (omega arith)))

one_more : (f g : ℕ → Bool) (m : ℕ) → f m ≡ true → g m ≡ false → ((l : ℕ) → (l ≡ m → ⊥) → f l ≡ g l) → (a n : ℕ) → a ≤ m → m < a + n → passing f a n ≡ 1 + passing g a n
one_more f g m at_first not_then h a zero from to = absurd (omega arith)
one_more f g m at_first not_then h a (suc n) from to = elim (cases_lt a m) [
  | inl less ↦ more_case (f a) (g a) a (filter f (range_with_len (a + 1) n)) (filter g (range_with_len (a + 1) n)) (h a (λ e. absurd (omega arith))) (one_more f g m at_first not_then h (a + 1) n (omega arith) (omega arith))
  | inr more ↦
      let is : m ≡ a = omega arith in
      let yes_a : f a ≡ true = ap f (sym is) ∙ at_first in
      let no_a : g a ≡ false = ap g (sym is) ∙ not_then in
      rw (yes_a, no_a) (omega (arith, as_many f g (a + 1) n (λ l le. h l (λ e. absurd (omega arith)))))
]

abbrev last_of : (ℕ → Bool) → ℕ → Bool
last_of s l = s l && not (s (l + 1))

falls_once : (s : ℕ → Bool) (a : ℕ) → ((l : ℕ) → s (l + 1) ≡ true → s l ≡ true) → s a ≡ false → (b : Bool) → s (a + 1) ≡ b → b ≡ false
falls_once s a down not_then true e = absurd (let at_first = down a e in cc)
falls_once s a down not_then false e = refl

no_last : (s : ℕ → Bool) → ((l : ℕ) → s (l + 1) ≡ true → s l ≡ true) → (a n : ℕ) → s a ≡ false → passing (last_of s) a n ≡ 0
no_last s down a zero not_then = refl
no_last s down a (suc n) not_then = rw not_then (no_last s down (a + 1) n (falls_once s a down not_then (s (a + 1)) refl))

one_last_case : (s : ℕ → Bool) → ((l : ℕ) → s (l + 1) ≡ true → s l ≡ true) → (a n : ℕ) (b : Bool) → s (a + 1) ≡ b → (s (a + 1) ≡ true → passing (last_of s) (a + 1) n ≡ 1) → length (cond (not b) (a ∷ filter (last_of s) (range_with_len (a + 1) n)) (filter (last_of s) (range_with_len (a + 1) n))) ≡ 1
one_last_case s down a n true e more = more e
one_last_case s down a n false e more = ap (λ n. suc n) (no_last s down (a + 1) n e)

-- what holds up to somewhere in a row holds for the last time once
one_last : (s : ℕ → Bool) → ((l : ℕ) → s (l + 1) ≡ true → s l ≡ true) → (a n : ℕ) → s a ≡ true → s (a + n) ≡ false → passing (last_of s) a n ≡ 1
one_last s down a zero at_first not_then =
    let same : a + 0 ≡ a = omega arith in
    let not_both : true ≡ false = sym at_first ∙ ap s (sym same) ∙ not_then in
    absurd cc
one_last s down a (suc n) at_first not_then = rw at_first (one_last_case s down a n (s (a + 1)) refl (λ e. one_last s down (a + 1) n e (ap s (omega arith) ∙ not_then)))

none_pass : (a n : ℕ) → length (filter (λ l. false) (range_with_len a n)) ≡ 0
none_pass a zero = refl
none_pass a (suc n) = none_pass (a + 1) n

or_none : (a b : Bool) → b ≡ false → (a || b) ≡ a
or_none true b e = refl
or_none false b e = e

or_some : (a b : Bool) → b ≡ true → (a || b) ≡ true
or_some true b e = refl
or_some false b e = e

module _ {V : Type 0} where
  abbrev some_part : ℕ → Prefix → List (Prefix × V) → Bool
  some_part l k es = list_any (λ e. part_behind l k e.0) es

  none_part : (l : ℕ) (k : Prefix) (es : List (Prefix × V)) → EachIs (λ q. part_behind l k q ≡ false) es → some_part l k es ≡ false
  none_part l k [] h = refl
  none_part l k (e ∷ es) h = ap (λ b. b || some_part l k es) h.0 ∙ none_part l k es h.1

  first_part : (l : ℕ) (k : Prefix) (es : List (Prefix × V)) → 0 < length es → EachIs (λ q. part_behind l k q ≡ true) es → some_part l k es ≡ true
  first_part l k [] some h = absurd (omega arith)
  first_part l k (e ∷ es) some h = ap (λ b. b || some_part l k es) h.0

  part_case : (l : ℕ) (k p : Prefix) (es : List (Prefix × V)) → 0 < length es → EachIs (SharesAs k p) es → (b : Bool) → part_behind l k p ≡ b → some_part l k es ≡ b
  part_case l k p es some h true e = first_part l k es some (each_weaker (SharesAs k p) (λ q. part_behind l k q ≡ true) (λ q i. part_as k p q i l ∙ e) es h)
  part_case l k p es some h false e = none_part l k es (each_weaker (SharesAs k p) (λ q. part_behind l k q ≡ false) (λ q i. part_as k p q i l ∙ e) es h)

  -- no entries, no nodes
  towards_none : (k : Prefix) (es : List (Prefix × V)) → es ≡ [] → nodes_towards k es ≡ 0
  unfolding nodes_towards
  towards_none k es e = rw e (none_pass 0 (k.len + 1))

  pub towards_empty : {A : Type 0} (k : Prefix) (l : Link V A) (d : Shape V) → shape l ≡ d → ((n : Box (Node V A) A) → l ≡ Fork n → ⊥) → nodes_towards k d.entries ≡ 0
  towards_empty k Empty d is other = towards_none k d.entries (ap (λ (s : Shape V). s.entries) (sym is))
  towards_empty k (Fork n) d is other = absurd (other n refl)

  -- one node, where all entries part from the prefix at one place
  towards_one : (k p : Prefix) (es : List (Prefix × V)) → 0 < length es → EachIs (SharesAs k p) es → nodes_towards k es ≡ 1
  unfolding nodes_towards
  towards_one k p es some h =
      let end : 0 + (k.len + 1) ≡ k.len + 1 = omega arith in
      as_many (λ l. some_part l k es) (λ l. part_behind l k p) 0 (k.len + 1) (λ l le. part_case l k p es some h (part_behind l k p) refl)
      ∙ one_last (λ l. share_bits l k p) (fewer k p) 0 (k.len + 1) refl (ap (λ l. share_bits l k p) end ∙ test_short (k.len + 1) k.len p.len (k.bits / block_size (k.len + 1)) (p.bits / block_size (k.len + 1)) (omega arith))

  -- one node more than in the half where the prefix lies
  towards_half : (k p : Prefix) (es half rest : List (Prefix × V)) → ((l : ℕ) → some_part l k es ≡ (some_part l k half || some_part l k rest)) → 0 < length rest → EachIs (SharesAs k p) rest → EachIs (λ q. share_bits (p.len + 1) k q ≡ true) half → IsInside p.bits p.len k → nodes_towards k es ≡ 1 + nodes_towards k half
  unfolding nodes_towards
  towards_half k p es half rest split some apart along at =
      one_more (λ l. some_part l k es) (λ l. some_part l k half) p.len
      (split p.len ∙ or_some (some_part p.len k half) (some_part p.len k rest) (part_case p.len k p rest some apart true (part_here k p at)))
      (none_part p.len k half (each_weaker (λ q. share_bits (p.len + 1) k q ≡ true) (λ q. part_behind p.len k q ≡ false) (λ q i. and_false (share_bits p.len k q) (share_bits (p.len + 1) k q) i) half along))
      (λ l other. split l ∙ or_none (some_part l k half) (some_part l k rest) (part_case l k p rest some apart false (part_elsewhere k p l at other)))
      0 (k.len + 1) (omega arith) (omega (arith, at.long))

module _ {V : Type 0} (d : Shape V) (p : Prefix) (w : Option V) (low high : Shape V) (entries : d.entries ≡ all_of p w low high) (parts : AreParts p w low high) where
  here_shares : (k : Prefix) (u : Option V) → EachIs (SharesAs k p) (here p u)
  here_shares k None = tt
  here_shares k (Some v) = (λ l. refl, tt)

  some_rest : (u : Option V) (es : List (Prefix × V)) → (u ≡ None → 0 < length es) → 0 < length (here p u ++ es)
  some_rest None es h = h refl
  some_rest (Some v) es h = omega arith

  swap_low : (a b c : Bool) → (a || (b || c)) ≡ (b || (a || c))
  swap_low true true c = refl
  swap_low true false c = refl
  swap_low false true c = refl
  swap_low false false c = refl

  swap_high : (a b c : Bool) → (a || (b || c)) ≡ (c || (a || b))
  swap_high true b true = refl
  swap_high true b false = refl
  swap_high false true true = refl
  swap_high false true false = refl
  swap_high false false true = refl
  swap_high false false false = refl

  abbrev parted : ℕ → Prefix → List (Prefix × V) → Bool
  parted l k es = list_any (λ e. part_behind l k e.0) es

  split : (l : ℕ) (k : Prefix) → parted l k d.entries ≡ (parted l k (here p w) || (parted l k low.entries || parted l k high.entries))
  split l k =
      ap (parted l k) entries ∙ list_any-append (λ e. part_behind l k e.0) (here p w) (low.entries ++ high.entries)
      ∙ ap (λ b. parted l k (here p w) || b) (list_any-append (λ e. part_behind l k e.0) low.entries high.entries)

  pub towards_low : (k : Prefix) → IsLow p k → nodes_towards k d.entries ≡ 1 + nodes_towards k low.entries
  towards_low k at = towards_half k p d.entries low.entries (here p w ++ high.entries)
      (λ l. split l k ∙ swap_low (parted l k (here p w)) (parted l k low.entries) (parted l k high.entries) ∙ ap (λ b. parted l k low.entries || b) (sym (list_any-append (λ e. part_behind l k e.0) (here p w) high.entries)))
      (some_rest w high.entries (λ e. (parts.full e).1))
      (each_append (SharesAs k p) (here p w) high.entries (here_shares k w) (each_weaker (IsHigh p) (SharesAs k p) (λ q i. shares_high k p q at i) high.entries parts.high_entries))
      (each_weaker (IsLow p) (λ q. share_bits (p.len + 1) k q ≡ true) (λ q i.
      test_yes (p.len + 1) k.len q.len (k.bits / block_size (p.len + 1)) (q.bits / block_size (p.len + 1)) at.long i.long
      (same_number p.bits (p.len + 1) (p.len + 1) k (bits_whole p (p.len + 1) (omega arith)) at (omega arith) ∙ sym (same_number p.bits (p.len + 1) (p.len + 1) q (bits_whole p (p.len + 1) (omega arith)) i (omega arith)))) low.entries parts.low_entries)
      (low_inside p k p.bits p.len (itself p) at)

  pub towards_high : (k : Prefix) → IsHigh p k → nodes_towards k d.entries ≡ 1 + nodes_towards k high.entries
  towards_high k at = towards_half k p d.entries high.entries (here p w ++ low.entries)
      (λ l. split l k ∙ swap_high (parted l k (here p w)) (parted l k low.entries) (parted l k high.entries) ∙ ap (λ b. parted l k high.entries || b) (sym (list_any-append (λ e. part_behind l k e.0) (here p w) low.entries)))
      (some_rest w low.entries (λ e. (parts.full e).0))
      (each_append (SharesAs k p) (here p w) low.entries (here_shares k w) (each_weaker (IsLow p) (SharesAs k p) (λ q i. shares_low k p q at i) low.entries parts.low_entries))
      (each_weaker (IsHigh p) (λ q. share_bits (p.len + 1) k q ≡ true) (λ q i.
      test_yes (p.len + 1) k.len q.len (k.bits / block_size (p.len + 1)) (q.bits / block_size (p.len + 1)) at.long i.long
      (same_number (middle p) (p.len + 1) (p.len + 1) k (middle_whole p (p.len + 1) (omega arith)) at (omega arith) ∙ sym (same_number (middle p) (p.len + 1) (p.len + 1) q (middle_whole p (p.len + 1) (omega arith)) i (omega arith)))) high.entries parts.high_entries)
      (high_inside p k p.bits p.len (itself p) at)

  all_share : (k : Prefix) → ((q : Prefix) → IsInside p.bits p.len q → SharesAs k p q) → nodes_towards k d.entries ≡ 1
  all_share k f = ap (nodes_towards k) entries ∙ towards_one k p (all_of p w low high) (some_all p w low high parts) (each_weaker (IsInside p.bits p.len) (SharesAs k p) f (all_of p w low high) (all_inside d p w low high entries parts))

  pub towards_same : nodes_towards p d.entries ≡ 1
  towards_same = all_share p (λ q i. shares_short p p q (omega arith) i)

  pub towards_outside : (k : Prefix) (place : Place) → Stands p k place → (place ≡ OverLow) ⊎ ((place ≡ OverHigh) ⊎ ((place ≡ Before) ⊎ (place ≡ Behind))) → nodes_towards k d.entries ≡ 1
  towards_outside k place stands (inl e) = let at = rw e at stands in all_share k (λ q i. shares_short k p q (omega (arith, at.long)) i)
  towards_outside k place stands (inr (inl e)) = let at = rw e at stands in all_share k (λ q i. shares_short k p q (omega (arith, at.long)) i)
  towards_outside k place stands (inr (inr (inl e))) = let at = rw e at stands in all_share k (λ q i. shares_before k p q at i)
  towards_outside k place stands (inr (inr (inr e))) = let at = rw e at stands in all_share k (λ q i. shares_behind k p q at i)
