-- The nodes on the way to a prefix are those that cover it, and one more at most.
use Rattle.std.proofs.Common.{◌≡◌, ℕ, zero, suc, ◌+◌, ◌*◌, ◌/◌, ◌^◌, ◌<◌, ◌≤◌, ◌&&◌, ◌||◌, ◌==◌, ◌⊎◌, inl, inr, Bool, true, false, cond, not, nat_le, List, [], ◌∷◌, filter, length, refl, sym, ap, ◌∙◌, arith}
use Rattle.std.proofs.Math.Nat.{div-div-eq-div-mul}
use Rattle.std.proofs.lemmas.Bool.{cases_lt}
use Rattle.std.proofs.lemmas.Bool.Decides.{nat_tests}
use Rattle.std.specs.List.{list_any, range_with_len}
use Rattle.net_prefix.specs.Cover.{block_size}
use Rattle.net_prefix.specs.declared.prefix.Prefix.{Prefix}
use Rattle.prefix_trie.specs.CoverWalks.{is_node, lies_in, nodes_covering, nodes_towards, part_behind, share_bits}
use Rattle.prefix_trie.specs.Nodes.{EachIs}
use Rattle.net_prefix.proofs.Blocks.{halves}
use Rattle.prefix_trie.proofs.Partings.{fewer, passing, test_other, test_parts, test_short, test_short_2, test_yes}

-- the number of the block of this length that an address is in
abbrev number_of : ℕ → ℕ → ℕ
number_of l x = x / block_size l

half_number : (l x : ℕ) → l < 32 → number_of l x ≡ number_of (l + 1) x / 2
half_number l x h =
    let two : block_size (l + 1) * 2 ≡ block_size l = omega (arith, halves l h) in
    ap (λ n. x / n) (sym two) ∙ sym (div-div-eq-div-mul x (block_size (l + 1)) 2)

whole_number : (x y : ℕ) → x < 2 ^ 32 → y < 2 ^ 32 → number_of 0 x ≡ number_of 0 y
whole_number x y h k = omega (arith, h, k)

-- the tests of a node
at_yes : (a l x c : ℕ) → a ≡ l → x ≡ c → (a == l && (x == c)) ≡ true
at_yes a l x c h e = grind (arith, nat_tests)

at_parts : (a l x c : ℕ) → (a == l && (x == c)) ≡ true → (a ≡ l) × (x ≡ c)
at_parts a l x c h = (grind (arith, nat_tests), grind (arith, nat_tests))

lies_yes : (l a x c : ℕ) → l ≤ a → x ≡ c → (nat_le l a && (x == c)) ≡ true
lies_yes l a x c h e = grind (arith, nat_tests)

lies_parts : (l a x c : ℕ) → (nat_le l a && (x == c)) ≡ true → (l ≤ a) × (x ≡ c)
lies_parts l a x c h = (grind (arith, nat_tests), grind (arith, nat_tests))

and_parts : (a b : Bool) → (a && b) ≡ true → (a ≡ true) × (b ≡ true)
and_parts true b h = (refl, h)
and_parts false b h = absurd cc

not_true : (a : Bool) → not a ≡ true → a ≡ false
not_true true h = absurd cc
not_true false h = refl

both_true : (a b : Bool) → a ≡ true → b ≡ false → (a && not b) ≡ true
both_true a b h n = rw (h, n) refl

or_left : (a b : Bool) → a ≡ true → (a || b) ≡ true
or_left a b h = rw h refl

or_right : (a b : Bool) → b ≡ true → (a || b) ≡ true
or_right true b h = refl
or_right false b h = h

or_cases : (a b : Bool) → (a || b) ≡ true → (a ≡ true) ⊎ (b ≡ true)
or_cases true b h = inl refl
or_cases false b h = inr h

-- an entry at the block, or in the half where the prefix is not, parts from it there
part_at : (k q : Prefix) (l : ℕ) → l ≤ k.len → (q.len == l && (number_of l q.bits == number_of l k.bits)) ≡ true → part_behind l k q ≡ true
part_at k q l short h =
    let p = at_parts q.len l (number_of l q.bits) (number_of l k.bits) h in
    both_true (share_bits l k q) (share_bits (l + 1) k q)
    (test_yes l k.len q.len (number_of l k.bits) (number_of l q.bits) short (omega (arith, p.0)) (sym p.1))
    (test_short_2 (l + 1) k.len q.len (number_of (l + 1) k.bits) (number_of (l + 1) q.bits) (omega (arith, p.0)))

part_half : (k q : Prefix) (l m : ℕ) → l ≤ k.len → m / 2 ≡ number_of l k.bits → (k.len < l + 1) ⊎ (number_of (l + 1) k.bits ≡ m → ⊥) → lies_in (l + 1) m q ≡ true → part_behind l k q ≡ true
part_half k q l m short half other h =
    let p = lies_parts (l + 1) q.len (number_of (l + 1) q.bits) m h in
    let within = q.short in
    let same : number_of l k.bits ≡ number_of l q.bits = sym half ∙ ap (λ n. n / 2) (sym p.1) ∙ sym (half_number l q.bits (omega (arith, p.0))) in
    both_true (share_bits l k q) (share_bits (l + 1) k q)
    (test_yes l k.len q.len (number_of l k.bits) (number_of l q.bits) short (omega (arith, p.0)) same)
    (elim other [
      | inl o ↦ test_short (l + 1) k.len q.len (number_of (l + 1) k.bits) (number_of (l + 1) q.bits) o
      | inr o ↦ test_other (l + 1) k.len q.len (number_of (l + 1) k.bits) (number_of (l + 1) q.bits) (omega arith) (λ e. o (e ∙ p.1))
    ])

-- an entry that shares these bits has the number of their block
shared_number : (k q : Prefix) (l : ℕ) → k.bits < 2 ^ 32 → q.bits < 2 ^ 32 → share_bits l k q ≡ true → (l ≤ q.len) × (number_of l q.bits ≡ number_of l k.bits)
shared_number k q zero hk hq h = (omega arith, whole_number q.bits k.bits hq hk)
shared_number k q (suc l) hk hq h =
    let p = test_parts (suc l) k.len q.len (number_of (suc l) k.bits) (number_of (suc l) q.bits) (omega arith) h in
    (p.1, sym p.2)

-- an entry that parts from the prefix is at the block, or in its other half
at_or_half : (k q : Prefix) (l m : ℕ) → l < k.len → k.bits < 2 ^ 32 → q.bits < 2 ^ 32 → number_of (l + 1) k.bits + m ≡ 4 * number_of l k.bits + 1 → part_behind l k q ≡ true
    → ((q.len == l && (number_of l q.bits == number_of l k.bits)) || lies_in (l + 1) m q) ≡ true
at_or_half k q l m long hk hq both h =
    let parts = and_parts (share_bits l k q) (not (share_bits (l + 1) k q)) h in
    let far = not_true (share_bits (l + 1) k q) parts.1 in
    let own = shared_number k q l hk hq parts.0 in
    let short = k.short in
    let half_k = half_number l k.bits (omega arith) in
    let half_q = half_number l q.bits (omega arith) in
    elim (cases_lt l q.len) [
      | inl more ↦
          let other : number_of (l + 1) k.bits ≡ number_of (l + 1) q.bits → ⊥ = λ e.
          let same = test_yes (l + 1) k.len q.len (number_of (l + 1) k.bits) (number_of (l + 1) q.bits) (omega arith) (omega arith) e in
          let clash : true ≡ false = sym same ∙ far in
          absurd cc in
          or_right (q.len == l && (number_of l q.bits == number_of l k.bits)) (lies_in (l + 1) m q)
          (lies_yes (l + 1) q.len (number_of (l + 1) q.bits) m (omega arith) (elim (cases_lt (number_of (l + 1) k.bits) (number_of (l + 1) q.bits)) [
            | inl less ↦ omega (arith, own.1)
            | inr le ↦ elim (cases_lt (number_of (l + 1) q.bits) (number_of (l + 1) k.bits)) [
              | inl less ↦ omega (arith, own.1)
              | inr ge ↦ absurd (other (omega arith))
            ]
          ]))
      | inr none ↦ or_left (q.len == l && (number_of l q.bits == number_of l k.bits)) (lies_in (l + 1) m q)
          (at_yes q.len l (number_of l q.bits) (number_of l k.bits) (omega (arith, own.0)) own.1)
    ]

-- fewer bits are shared too
fewer_far : (k q : Prefix) (l d : ℕ) → share_bits (l + d) k q ≡ true → share_bits l k q ≡ true
fewer_far k q l zero h = let same : l ≡ l + 0 = omega arith in ap (λ n. share_bits n k q) same ∙ h
fewer_far k q l (suc d) h = let same : (l + d) + 1 ≡ l + suc d = omega arith in fewer_far k q l d (fewer k q (l + d) (ap (λ n. share_bits n k q) same ∙ h))

module _ {V : Type 0} where
  any_gives : (P : Prefix → Type 0) (t u : Prefix → Bool) → ((q : Prefix) → P q → t q ≡ true → u q ≡ true) → (es : List (Prefix × V)) → EachIs P es → list_any (λ e. t e.0) es ≡ true → list_any (λ e. u e.0) es ≡ true
  any_gives P t u f [] h a = a
  any_gives P t u f (e ∷ es) h a = elim (or_cases (t e.0) (list_any (λ e. t e.0) es) a) [
    | inl x ↦ or_left (u e.0) (list_any (λ e. u e.0) es) (f e.0 h.0 x)
    | inr x ↦ or_right (u e.0) (list_any (λ e. u e.0) es) (any_gives P t u f es h.1 x)
  ]

  any_either : (t u : Prefix → Bool) (es : List (Prefix × V)) → list_any (λ e. t e.0 || u e.0) es ≡ true → (list_any (λ e. t e.0) es || list_any (λ e. u e.0) es) ≡ true
  any_either t u [] a = a
  any_either t u (e ∷ es) a = elim (or_cases (t e.0 || u e.0) (list_any (λ e. t e.0 || u e.0) es) a) [
    | inl x ↦ elim (or_cases (t e.0) (u e.0) x) [
      | inl y ↦ or_left (t e.0 || list_any (λ e. t e.0) es) (u e.0 || list_any (λ e. u e.0) es) (or_left (t e.0) (list_any (λ e. t e.0) es) y)
      | inr y ↦ or_right (t e.0 || list_any (λ e. t e.0) es) (u e.0 || list_any (λ e. u e.0) es) (or_left (u e.0) (list_any (λ e. u e.0) es) y)
    ]
    | inr x ↦ elim (or_cases (list_any (λ e. t e.0) es) (list_any (λ e. u e.0) es) (any_either t u es x)) [
      | inl y ↦ or_left (t e.0 || list_any (λ e. t e.0) es) (u e.0 || list_any (λ e. u e.0) es) (or_right (t e.0) (list_any (λ e. t e.0) es) y)
      | inr y ↦ or_right (t e.0 || list_any (λ e. t e.0) es) (u e.0 || list_any (λ e. u e.0) es) (or_right (u e.0) (list_any (λ e. u e.0) es) y)
    ]
  ]

none_on : {V : Type 0} (k : Prefix) (es : List (Prefix × V)) (l : ℕ) → k.len < l → list_any (λ e. share_bits l k e.0) es ≡ false
none_on k [] l h = refl
none_on k (e ∷ es) l h = ap (λ b. b || list_any (λ e. share_bits l k e.0) es) (test_short l k.len e.0.len (number_of l k.bits) (number_of l e.0.bits) h) ∙ none_on k es l h

module _ {V : Type 0} (k : Prefix) (es : List (Prefix × V)) (small : k.bits < 2 ^ 32) (addresses : EachIs (λ q. q.bits < 2 ^ 32) es) where
  abbrev node_at : ℕ → Bool
  node_at l = is_node l (k.bits / block_size l) es

  abbrev parted_at : ℕ → Bool
  parted_at l = list_any (λ e. part_behind l k e.0) es

  abbrev goes_on : ℕ → Bool
  goes_on l = list_any (λ e. share_bits l k e.0) es

  -- some part from the prefix at each node that covers it
  at_half : (l m : ℕ) → l ≤ k.len → m / 2 ≡ number_of l k.bits → (k.len < l + 1) ⊎ (number_of (l + 1) k.bits ≡ m → ⊥) → list_any (λ e. lies_in (l + 1) m e.0) es ≡ true → parted_at l ≡ true
  at_half l m short half other a = any_gives (λ q. q.bits < 2 ^ 32) (λ q. lies_in (l + 1) m q) (λ q. part_behind l k q) (λ q i h. part_half k q l m short half other h) es addresses a

  node_parts : (l : ℕ) → l ≤ k.len → node_at l ≡ true → parted_at l ≡ true
  node_parts l short h = elim (or_cases (list_any (λ e. e.0.len == l && (e.0.bits / block_size l == k.bits / block_size l)) es) (list_any (λ e. lies_in (l + 1) (2 * (k.bits / block_size l)) e.0) es && list_any (λ e. lies_in (l + 1) (2 * (k.bits / block_size l) + 1) e.0) es) h) [
    | inl a ↦ any_gives (λ q. q.bits < 2 ^ 32) (λ q. q.len == l && (q.bits / block_size l == k.bits / block_size l)) (λ q. part_behind l k q) (λ q i t. part_at k q l short t) es addresses a
    | inr a ↦
        let halves_of = and_parts (list_any (λ e. lies_in (l + 1) (2 * (k.bits / block_size l)) e.0) es) (list_any (λ e. lies_in (l + 1) (2 * (k.bits / block_size l) + 1) e.0) es) a in
        elim (cases_lt (number_of (l + 1) k.bits) (2 * number_of l k.bits + 1)) [
          | inl less ↦ at_half l (2 * number_of l k.bits + 1) short (omega arith) (inr (λ e. absurd (omega arith))) halves_of.1
          | inr more ↦ at_half l (2 * number_of l k.bits) short (omega arith) (inr (λ e. absurd (omega arith))) halves_of.0
        ]
  ]

  -- and there is a node where some part from it and others go on
  half_lies : (l m : ℕ) → number_of (l + 1) k.bits ≡ m → goes_on (l + 1) ≡ true → list_any (λ e. lies_in (l + 1) m e.0) es ≡ true
  half_lies l m is a = any_gives (λ q. q.bits < 2 ^ 32) (λ q. share_bits (l + 1) k q) (λ q. lies_in (l + 1) m q) (λ q i h.
      let p = shared_number k q (l + 1) small i h in
      lies_yes (l + 1) q.len (number_of (l + 1) q.bits) m p.0 (p.1 ∙ is)) es addresses a

  parted_half : (l m : ℕ) → l < k.len → number_of (l + 1) k.bits + m ≡ 4 * number_of l k.bits + 1 → parted_at l ≡ true
      → (list_any (λ e. e.0.len == l && (e.0.bits / block_size l == k.bits / block_size l)) es || list_any (λ e. lies_in (l + 1) m e.0) es) ≡ true
  parted_half l m long both a =
      any_either (λ q. q.len == l && (q.bits / block_size l == k.bits / block_size l)) (λ q. lies_in (l + 1) m q) es
      (any_gives (λ q. q.bits < 2 ^ 32) (λ q. part_behind l k q) (λ q. (q.len == l && (q.bits / block_size l == k.bits / block_size l)) || lies_in (l + 1) m q) (λ q i h. at_or_half k q l m long small i both h) es addresses a)

  or_and : (a b c : Bool) → b ≡ true → (a || c) ≡ true → (a || (b && c)) ≡ true
  or_and true b c h x = refl
  or_and false b c h x = rw h x

  or_and_2 : (a b c : Bool) → c ≡ true → (a || b) ≡ true → (a || (b && c)) ≡ true
  or_and_2 true b c h x = refl
  or_and_2 false true c h x = h
  or_and_2 false false c h x = x

  goes_on_long : (l : ℕ) → goes_on (l + 1) ≡ true → (b : Bool) → nat_le (l + 1) k.len ≡ b → l < k.len
  goes_on_long l a true e = grind (arith, nat_tests)
  goes_on_long l a false e =
      let short : k.len < l + 1 = grind (arith, nat_tests) in
      let none : goes_on (l + 1) ≡ false = none_on k es (l + 1) short in
      let clash : true ≡ false = sym a ∙ none in
      absurd cc

  parted_node : (l : ℕ) → parted_at l ≡ true → goes_on (l + 1) ≡ true → node_at l ≡ true
  parted_node l a b =
      let long = goes_on_long l b (nat_le (l + 1) k.len) refl in
      let short = k.short in
      let half = half_number l k.bits (omega arith) in
      let first = list_any (λ e. e.0.len == l && (e.0.bits / block_size l == k.bits / block_size l)) es in
      let low = list_any (λ e. lies_in (l + 1) (2 * (k.bits / block_size l)) e.0) es in
      let high = list_any (λ e. lies_in (l + 1) (2 * (k.bits / block_size l) + 1) e.0) es in
      elim (cases_lt (number_of (l + 1) k.bits) (2 * number_of l k.bits + 1)) [
        | inl less ↦ or_and first low high (half_lies l (2 * number_of l k.bits) (omega arith) b) (parted_half l (2 * number_of l k.bits + 1) long (omega arith) a)
        | inr more ↦ or_and_2 first low high (half_lies l (2 * number_of l k.bits + 1) (omega arith) b) (parted_half l (2 * number_of l k.bits) long (omega arith) a)
      ]

  parted_on : (l d : ℕ) → parted_at (l + 1 + d) ≡ true → goes_on (l + 1) ≡ true
  parted_on l d a = any_gives (λ q. q.bits < 2 ^ 32) (λ q. part_behind (l + 1 + d) k q) (λ q. share_bits (l + 1) k q)
      (λ q i h. fewer_far k q (l + 1) d (and_parts (share_bits (l + 1 + d) k q) (not (share_bits (l + 1 + d + 1) k q)) h).0) es addresses a

  none_later : (l d : ℕ) (b : Bool) → goes_on (l + 1) ≡ false → parted_at (l + 1 + d) ≡ b → b ≡ false
  none_later l d true no_more e = let clash : true ≡ false = sym (parted_on l d e) ∙ no_more in absurd cc
  none_later l d false no_more e = refl

  last_or_node : (l : ℕ) (b : Bool) → goes_on (l + 1) ≡ b → parted_at l ≡ true → (node_at l ≡ true) ⊎ ((d : ℕ) → parted_at (l + 1 + d) ≡ false)
  last_or_node l true e a = inl (parted_node l a e)
  last_or_node l false e a = inr (λ d. none_later l d (parted_at (l + 1 + d)) e refl)

none_passing : (f : ℕ → Bool) (a n : ℕ) → ((d : ℕ) → f (a + d) ≡ false) → passing f a n ≡ 0
none_passing f a zero h = refl
none_passing f a (suc n) h =
    let same : a + 0 ≡ a = omega arith in
    let first : f a ≡ false = ap f (sym same) ∙ h 0 in
    rw first (none_passing f (a + 1) n (λ d. let far : a + 1 + d ≡ a + suc d = omega arith in ap f far ∙ h (suc d)))

less_case : (b c : Bool) (a : ℕ) (xs ys : List ℕ) → (b ≡ true → c ≡ true) → length xs ≤ length ys → length (cond b (a ∷ xs) xs) ≤ length (cond c (a ∷ ys) ys)
less_case true c a xs ys f h = rw (f refl) (omega (arith, h))
less_case false true a xs ys f h = omega (arith, h)
less_case false false a xs ys f h = h

fewer_pass : (f g : ℕ → Bool) (a n : ℕ) → ((l : ℕ) → l < a + n → f l ≡ true → g l ≡ true) → passing f a n ≤ passing g a n
fewer_pass f g a zero h = omega arith
fewer_pass f g a (suc n) h = less_case (f a) (g a) a (filter f (range_with_len (a + 1) n)) (filter g (range_with_len (a + 1) n)) (h a (omega arith)) (fewer_pass f g (a + 1) n (λ l less. h l (omega arith)))

most_case : (b c : Bool) (a : ℕ) (xs ys : List ℕ) → (b ≡ true → (c ≡ true) ⊎ (length xs ≡ 0)) → length xs ≤ length ys + 1 → length (cond b (a ∷ xs) xs) ≤ length (cond c (a ∷ ys) ys) + 1
most_case true true a xs ys f h = omega (arith, h)
most_case true false a xs ys f h = elim (f refl) [
  | inl e ↦ absurd cc
  | inr e ↦ omega (arith, e)
]
most_case false true a xs ys f h = omega (arith, h)
most_case false false a xs ys f h = h

one_more_passes : (f g : ℕ → Bool) → ((l : ℕ) → f l ≡ true → (g l ≡ true) ⊎ ((d : ℕ) → f (l + 1 + d) ≡ false)) → (a n : ℕ) → passing f a n ≤ passing g a n + 1
one_more_passes f g h a zero = omega arith
one_more_passes f g h a (suc n) = most_case (f a) (g a) a (filter f (range_with_len (a + 1) n)) (filter g (range_with_len (a + 1) n)) (λ e. elim (h a e) [
  | inl x ↦ inl x
  | inr x ↦ inr (none_passing f (a + 1) n x)
]) (one_more_passes f g h (a + 1) n)

-- a walk to a prefix looks at the nodes that cover it, and one more at most
pub covering_towards : {V : Type 0} (k : Prefix) (es : List (Prefix × V)) → k.bits < 2 ^ 32 → EachIs (λ q. q.bits < 2 ^ 32) es → nodes_covering k es ≤ nodes_towards k es
unfolding nodes_towards nodes_covering
covering_towards k es small addresses = fewer_pass (node_at k es small addresses) (parted_at k es small addresses) 0 (k.len + 1) (λ l less. node_parts k es small addresses l (omega arith))

pub towards_covering : {V : Type 0} (k : Prefix) (es : List (Prefix × V)) → k.bits < 2 ^ 32 → EachIs (λ q. q.bits < 2 ^ 32) es → nodes_towards k es ≤ nodes_covering k es + 1
unfolding nodes_towards nodes_covering
towards_covering k es small addresses = one_more_passes (parted_at k es small addresses) (node_at k es small addresses) (λ l a. last_or_node k es small addresses l (list_any (λ e. share_bits (l + 1) k e.0) es) refl a) 0 (k.len + 1)
