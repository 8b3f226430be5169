-- What is found in a map behind a change, and which of its prefixes a walk answers.
use Rattle.std.proofs.Common.{◌≡◌, ◌<◌, Bool, true, false, cond, not, List, [], ◌∷◌, Option, None, Some, refl, sym, ap, subst, ◌∙◌}
use Rattle.std.proofs.lemmas.Map.Entries.{lookup-filter-keys}
use Rattle.std.specs.List.{AllByRecursion, filter}
use Rattle.std.specs.List.Sorted.{IsStrictlySortedBy}
use Rattle.std.specs.Map.{keys_of}
use Rattle.std.specs.Ordering.{is_eq, is_gt, is_lt, match_ordering}
use Rattle.std.specs.declared.cmp.Ordering.{Ordering}
use Rattle.std.specs.declared.cmp.Ordering.TheVariants.{Less, Equal, Greater}
use Rattle.net_prefix.specs.declared.prefix.Prefix.{Prefix}
use Rattle.net_prefix.specs.PrefixOrder.{IsAbove, prefix_cmp}
use Rattle.net_prefix.proofs.PayloadSets.{prefix_cmp_exact}
use Rattle.net_prefix.proofs.Ranks.{rank, cmp_above, cmp_below, cmp_same, less_rank}
use Rattle.prefix_trie.specs.TrieMap.{IsRising, found, with_entry, without}
use Rattle.prefix_trie.specs.TrieWalks.{all_after, first_key}
use Rattle.prefix_trie.proofs.EntryLists.{AreAbove}

equal_case : (o : Ordering) → is_eq o ≡ true → o ≡ Equal
equal_case Less h = absurd cc
equal_case Equal h = refl
equal_case Greater h = absurd cc

-- prefixes that are compared as equal are one
pub one_prefix : (p q : Prefix) → is_eq (prefix_cmp p q) ≡ true → p ≡ q
one_prefix p q h = prefix_cmp_exact p q (equal_case (prefix_cmp p q) h)

pub is_at-refl : (p : Prefix) → is_eq (prefix_cmp p p) ≡ true
is_at-refl p = ap is_eq (cmp_same p)

flip_case : (p q : Prefix) (b c : Bool) → is_eq (prefix_cmp p q) ≡ b → is_eq (prefix_cmp q p) ≡ c → b ≡ c
flip_case p q true true h k = refl
flip_case p q true false h k = let e = one_prefix p q h in sym (rw e at (is_at-refl p)) ∙ rw e at k
flip_case p q false true h k = let e = one_prefix q p k in sym h ∙ rw e (is_at-refl p)
flip_case p q false false h k = refl

flip : (p q : Prefix) → is_eq (prefix_cmp p q) ≡ is_eq (prefix_cmp q p)
flip p q = flip_case p q (is_eq (prefix_cmp p q)) (is_eq (prefix_cmp q p)) refl refl

swapped : {X : Type 0} (b c : Bool) (x y z : X) → (b ≡ true → c ≡ true → ⊥) → cond c y (cond b x z) ≡ cond b x (cond c y z)
swapped true true x y z apart = absurd (apart refl refl)
swapped true false x y z apart = refl
swapped false c x y z apart = refl

repeated : {X : Type 0} (b : Bool) (x y z : X) → cond b x z ≡ cond b x (cond b y z)
repeated true x y z = refl
repeated false x y z = refl

-- whether a prefix is above one
abbrev is_after : Option Prefix → Prefix → Bool
is_after None q = true
is_after (Some p) q = is_lt (prefix_cmp p q)

less_case : (o : Ordering) → is_lt o ≡ true → o ≡ Less
less_case Less h = refl
less_case Equal h = absurd cc
less_case Greater h = absurd cc

above_from_test : (after : Option Prefix) (q : Prefix) → is_after after q ≡ true → IsAbove after q
above_from_test None q h = tt
above_from_test (Some p) q h = less_case (prefix_cmp p q) h

test_from_above : (after : Option Prefix) (q : Prefix) → IsAbove after q → is_after after q ≡ true
test_from_above None q h = refl
test_from_above (Some p) q h = ap is_lt h

module _ {V : Type 0} where
  with_case : (p q : Prefix) (v : V) (e : Prefix × V) (es : List (Prefix × V)) (r : Ordering) → prefix_cmp p e.0 ≡ r
      → found (with_entry es p v) q ≡ cond (is_eq (prefix_cmp p q)) (Some v) (found es q)
      → found (match_ordering r ((p, v) ∷ e ∷ es) ((e.0, v) ∷ es) (e ∷ with_entry es p v)) q ≡ cond (is_eq (prefix_cmp p q)) (Some v) (found (e ∷ es) q)
  with_case p q v e es Less is more = ap (λ b. cond b (Some v) (found (e ∷ es) q)) (flip q p)
  with_case p q v e es Equal is more =
      let same : p ≡ e.0 = prefix_cmp_exact p e.0 is in
      let tests : is_eq (prefix_cmp q e.0) ≡ is_eq (prefix_cmp p q) = flip q e.0 ∙ ap (λ k. is_eq (prefix_cmp k q)) (sym same) in
      rw tests (repeated (is_eq (prefix_cmp p q)) (Some v) (Some e.1) (found es q))
  with_case p q v e es Greater is more =
      ap (cond (is_eq (prefix_cmp q e.0)) (Some e.1)) more
      ∙ swapped (is_eq (prefix_cmp p q)) (is_eq (prefix_cmp q e.0)) (Some v) (Some e.1) (found es q)
      (λ h k. let one : p ≡ e.0 = one_prefix p q h ∙ one_prefix q e.0 k in let equal : Equal ≡ Greater = sym (cmp_same e.0) ∙ rw one at is in absurd cc)

  -- behind a put, the prefix has the value, and each other what it had
  pub found-with_entry : (es : List (Prefix × V)) (p q : Prefix) (v : V) → found (with_entry es p v) q ≡ cond (is_eq (prefix_cmp p q)) (Some v) (found es q)
  found-with_entry [] p q v = ap (λ b. cond b (Some v) None) (flip q p)
  found-with_entry (e ∷ es) p q v = with_case p q v e es (prefix_cmp p e.0) refl (found-with_entry es p q v)

  taken : (b : Bool) (x : Option V) → cond (not b) x None ≡ cond b None x
  taken true x = refl
  taken false x = refl

  -- behind a removal, the prefix has no value, and each other what it had
  pub found-without : (es : List (Prefix × V)) (p q : Prefix) → found (without es p) q ≡ cond (is_eq (prefix_cmp p q)) None (found es q)
  found-without es p q =
      lookup-filter-keys (λ k. is_eq (prefix_cmp q k)) (λ k. not (is_eq (prefix_cmp p k))) (not (is_eq (prefix_cmp p q)))
      (λ k same. ap (λ (x : Prefix). not (is_eq (prefix_cmp p x))) (sym (one_prefix q k same))) es
      ∙ taken (is_eq (prefix_cmp p q)) (found es q)

  -- a prefix has one value
  pub found-same : (es : List (Prefix × V)) (p q : Prefix) → is_eq (prefix_cmp p q) ≡ true → found es q ≡ found es p
  found-same es p q h = ap (found es) (sym (one_prefix p q h))

  -- the least prefix above one, or of all, whose value passes a test
  pub record IsLeast (t : V → Bool) (after : Option Prefix) (es : List (Prefix × V)) (p : Prefix) : Type 0 where
    pub value : V
    pub there : found es p ≡ Some value
    pub passes : t value ≡ true
    pub above : IsAbove after p
    pub least : (q : Prefix) (v : V) → IsAbove after q → found es q ≡ Some v → t v ≡ true → is_gt (prefix_cmp p q) ≡ false

  -- no prefix above one, or of all, has a value that passes a test
  abbrev pub IsNone : (V → Bool) → Option Prefix → List (Prefix × V) → Type 0
  IsNone t after es = (q : Prefix) (v : V) → IsAbove after q → found es q ≡ Some v → t v ≡ false

  rank_case : (k q : Prefix) (v : V) (e : Prefix × V) (es : List (Prefix × V)) (b : Bool) → is_eq (prefix_cmp q e.0) ≡ b → rank k < rank e.0 → (found es q ≡ Some v → rank k < rank q) → cond b (Some e.1) (found es q) ≡ Some v → rank k < rank q
  rank_case k q v e es true same here more h = subst (λ (p : Prefix). rank k < rank p) (sym (one_prefix q e.0 same)) here
  rank_case k q v e es false same here more h = more h

  rank_found : (k q : Prefix) (v : V) (es : List (Prefix × V)) → AreAbove k es → found es q ≡ Some v → rank k < rank q
  rank_found k q v [] above h = absurd cc
  rank_found k q v (e ∷ es) above h = rank_case k q v e es (is_eq (prefix_cmp q e.0)) refl above.0 (rank_found k q v es above.1) h

  -- what rises behind an entry is above it
  above_head : (x : Prefix) (es : List (Prefix × V)) → AllByRecursion (λ y. prefix_cmp x y ≡ Less) (keys_of es) → AreAbove x es
  above_head x [] h = tt
  above_head x (y ∷ es) h = (less_rank x y.0 h.0, above_head x es h.1)

  passed : (k q : Prefix) (v : V) (es : List (Prefix × V)) → rank k < rank q → found ((k, v) ∷ es) q ≡ found es q
  passed k q v es h = rw (cmp_above q k h) refl

  module _ (t : V → Bool) (after : Option Prefix) where
    -- it stays the least behind an entry below it whose value doesn't pass, or that isn't above
    behind : (e : Prefix × V) (es : List (Prefix × V)) (p : Prefix) → AreAbove e.0 es → (IsAbove after e.0 → t e.1 ≡ false) → IsLeast t after es p → IsLeast t after (e ∷ es) p
    behind e es p rising fails h = record {
      value = h.value;
      there = passed e.0 p e.1 es (rank_found e.0 p h.value es rising h.there) ∙ h.there;
      passes = h.passes;
      above = h.above;
      least = λ q v above there passes. least_case q v (is_eq (prefix_cmp q e.0)) refl above there passes;
    } where
      least_case : (q : Prefix) (v : V) (b : Bool) → is_eq (prefix_cmp q e.0) ≡ b → IsAbove after q → cond b (Some e.1) (found es q) ≡ Some v → t v ≡ true → is_gt (prefix_cmp p q) ≡ false
      least_case q v true same above there passes =
          let value : e.1 ≡ v = cc in
          let no : t e.1 ≡ false = fails (subst (IsAbove after) (one_prefix q e.0 same) above) in
          let yes : t e.1 ≡ true = ap t value ∙ passes in
          absurd cc
      least_case q v false same above there passes = h.least q v above there passes

    -- the first of rising entries is the least, where it passes
    first : (e : Prefix × V) (es : List (Prefix × V)) → AreAbove e.0 es → IsAbove after e.0 → t e.1 ≡ true → IsLeast t after (e ∷ es) e.0
    first e es rising above passes = record {
      value = e.1;
      there = rw (cmp_same e.0) refl;
      passes = passes;
      above = above;
      least = λ q v _ there _. least_case q v (is_eq (prefix_cmp q e.0)) refl there;
    } where
      least_case : (q : Prefix) (v : V) (b : Bool) → is_eq (prefix_cmp q e.0) ≡ b → cond b (Some e.1) (found es q) ≡ Some v → is_gt (prefix_cmp e.0 q) ≡ false
      least_case q v true same there = ap (λ (k : Prefix). is_gt (prefix_cmp e.0 k)) (one_prefix q e.0 same) ∙ ap is_gt (cmp_same e.0)
      least_case q v false same there = ap is_gt (cmp_below e.0 q (rank_found e.0 q v es rising there))

  kept_all : (es : List (Prefix × V)) → filter (λ _. true) es ≡ es
  kept_all [] = refl
  kept_all (e ∷ es) = ap (λ l. e ∷ l) (kept_all es)

  after_is : (after : Option Prefix) (es : List (Prefix × V)) → all_after after es ≡ filter (λ e. is_after after e.0) es
  after_is None es = sym (kept_all es)
  after_is (Some p) es = refl

  module _ (t : V → Bool) (after : Option Prefix) where
    -- the first of the entries above a prefix, or of all, whose values pass
    abbrev first_passing : List (Prefix × V) → Option Prefix
    first_passing es = first_key (filter (λ e. t e.1) (filter (λ e. is_after after e.0) es))

    step_case : (e : Prefix × V) (es : List (Prefix × V)) (b : Bool)
        → filter (λ x. t x.1) (cond b (e ∷ es) es) ≡ cond b (cond (t e.1) (e ∷ filter (λ x. t x.1) es) (filter (λ x. t x.1) es)) (filter (λ x. t x.1) es)
    step_case e es true = refl
    step_case e es false = refl

    least_case : (e : Prefix × V) (es : List (Prefix × V)) (p : Prefix) (x : List (Prefix × V)) (b c : Bool) → is_after after e.0 ≡ b → t e.1 ≡ c → AreAbove e.0 es
        → (Some p ≡ first_key x → IsLeast t after es p) → Some p ≡ first_key (cond b (cond c (e ∷ x) x) x) → IsLeast t after (e ∷ es) p
    least_case e es p x true true is passes rising more h =
        let same : e.0 ≡ p = cc in
        subst (λ (k : Prefix). IsLeast t after (e ∷ es) k) same (first t after e es rising (above_from_test after e.0 is) passes)
    least_case e es p x true false is passes rising more h = behind t after e es p rising (λ _. passes) (more h)
    least_case e es p x false c is passes rising more h =
        behind t after e es p rising (λ above. let yes = test_from_above after e.0 above in absurd cc) (more h)

    least_first : (es : List (Prefix × V)) → IsRising es → (p : Prefix) → Some p ≡ first_passing es → IsLeast t after es p
    unfolding IsStrictlySortedBy
    least_first [] rising p h = absurd cc
    least_first (e ∷ es) rising p h =
        least_case e es p (filter (λ x. t x.1) (filter (λ x. is_after after x.0) es)) (is_after after e.0) (t e.1) refl refl (above_head e.0 es rising.0)
        (least_first es rising.1 p) (h ∙ ap first_key (step_case e (filter (λ x. is_after after x.0) es) (is_after after e.0)))

    none_case : (e : Prefix × V) (es : List (Prefix × V)) (x : List (Prefix × V)) (q : Prefix) (v : V) (a b c : Bool) → is_eq (prefix_cmp q e.0) ≡ a → is_after after e.0 ≡ b → t e.1 ≡ c
        → (None ≡ first_key x → found es q ≡ Some v → t v ≡ false) → IsAbove after q → None ≡ first_key (cond b (cond c (e ∷ x) x) x) → cond a (Some e.1) (found es q) ≡ Some v → t v ≡ false
    none_case e es x q v true true true same is passes more above h there = absurd cc
    none_case e es x q v true true false same is passes more above h there = let value : v ≡ e.1 = cc in ap t value ∙ passes
    none_case e es x q v true false c same is passes more above h there =
        let yes = test_from_above after e.0 (subst (IsAbove after) (one_prefix q e.0 same) above) in absurd cc
    none_case e es x q v false true true same is passes more above h there = absurd cc
    none_case e es x q v false true false same is passes more above h there = more h there
    none_case e es x q v false false c same is passes more above h there = more h there

    none_first : (es : List (Prefix × V)) → None ≡ first_passing es → IsNone t after es
    none_first [] h q v above there = absurd cc
    none_first (e ∷ es) h q v above there =
        none_case e es (filter (λ x. t x.1) (filter (λ x. is_after after x.0) es)) q v (is_eq (prefix_cmp q e.0)) (is_after after e.0) (t e.1) refl refl refl
        (λ none has. none_first es none q v above has) above (h ∙ ap first_key (step_case e (filter (λ x. is_after after x.0) es) (is_after after e.0))) there

  module _ {M : Type 0} (marks_of : V → M) (meet : M → M → Bool) (marks : M) (after : Option Prefix) (es : List (Prefix × V)) where
    marked_is : first_key (filter (λ e. meet (marks_of e.1) marks) (all_after after es)) ≡ first_passing (λ v. meet (marks_of v) marks) after es
    marked_is = ap (λ l. first_key (filter (λ e. meet (marks_of e.1) marks) l)) (after_is after es)

    -- what a walk to the next of those answers whose values have one of the marks
    pub least_marked : IsRising es → (p : Prefix) → Some p ≡ first_key (filter (λ e. meet (marks_of e.1) marks) (all_after after es)) → IsLeast (λ v. meet (marks_of v) marks) after es p
    least_marked rising p h = least_first (λ v. meet (marks_of v) marks) after es rising p (h ∙ marked_is)

    pub none_marked : None ≡ first_key (filter (λ e. meet (marks_of e.1) marks) (all_after after es)) → IsNone (λ v. meet (marks_of v) marks) after es
    none_marked h = none_first (λ v. meet (marks_of v) marks) after es (h ∙ marked_is)

  none_there : (o : Option V) → ((v : V) → o ≡ Some v → true ≡ false) → o ≡ None
  none_there None h = refl
  none_there (Some v) h = let no = h v refl in absurd cc

  module _ (after : Option Prefix) (es : List (Prefix × V)) where
    after_all : first_key (all_after after es) ≡ first_passing (λ _. true) after es
    after_all = ap first_key (after_is after es ∙ sym (kept_all (filter (λ e. is_after after e.0) es)))

    -- what a walk to the next prefix answers
    pub least_after : IsRising es → (p : Prefix) → Some p ≡ first_key (all_after after es) → IsLeast (λ _. true) after es p
    least_after rising p h = least_first (λ _. true) after es rising p (h ∙ after_all)

    pub none_after : None ≡ first_key (all_after after es) → (q : Prefix) → IsAbove after q → found es q ≡ None
    none_after h q above = none_there (found es q) (λ v there. none_first (λ _. true) after es (h ∙ after_all) q v above there)
