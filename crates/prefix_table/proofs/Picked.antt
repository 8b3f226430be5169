-- What is read of each entry of a rising table.
use Rattle.std.proofs.Common.{◌≡◌, ◌++◌, Bool, true, false, cond, not, ◌&&◌, List, [], ◌∷◌, All, Option, None, Some, IfSome, IsSome, filter, map, option_map, option_and_then, refl, sym, ap, ◌∙◌, subst}
use Rattle.std.proofs.lemmas.List.Elements.{filter_agree, All-cons, All-head, All-nil, All-tail, filter_map-append}
use Rattle.std.specs.BTreeMap.Range.{entries_between, range_contains}
use Rattle.std.specs.List.{AllByRecursion, cons_option}
use Rattle.std.specs.List.Sorted.{IsStrictlySortedBy}
use Rattle.std.specs.Map.{keys_of, values_of}
use Rattle.std.specs.Ordering.{is_eq, is_lt, ordering_reverse}
use Rattle.std.specs.declared.cmp.Ordering.{Ordering}
use Rattle.std.specs.declared.cmp.Ordering.TheVariants.{Less, Equal, Greater}
use Rattle.std.specs.declared.ops.Bound.{Bound}
use Rattle.std.specs.declared.ops.Bound.TheVariants.{Excluded, Unbounded}
use Rattle.net_prefix.proofs.PayloadSets.{prefix_cmp_exact, prefix_cmp_total}
use Rattle.net_prefix.specs.PrefixOrder.{prefix_cmp}
use Rattle.net_prefix.specs.declared.prefix.Prefix.{Prefix}
use Rattle.prefix_trie.proofs.MapLaws.{is_at-refl, one_prefix}
use Rattle.prefix_trie.specs.TrieMap.{IsRising, found}
use Rattle.prefix_trie.specs.TrieWalks.{all_after, first_key}
use Rattle.prefix_table.specs.Picked.{picked}

-- the keys stand behind a prefix
abbrev pub AreBehind : {X : Type 0} → Prefix → List (Prefix × X) → Type 0
AreBehind p es = AllByRecursion (λ q. prefix_cmp p q ≡ Less) (keys_of es)

-- ---- rising tables are told apart by what is found of each prefix

module _ {X : Type 0} where
  pub none_behind : (p : Prefix) (es : List (Prefix × X)) → AreBehind p es → found es p ≡ None
  none_behind p [] behind = refl
  none_behind p (e ∷ es) behind = ap (λ r. cond (is_eq r) (Some e.1) (found es p)) behind.0 ∙ none_behind p es behind.1

  further : (p q : Prefix) (es : List (Prefix × X)) → prefix_cmp p q ≡ Less → AreBehind q es → AreBehind p es
  further p q [] less behind = tt
  further p q (e ∷ es) less behind = (prefix_cmp_total.trans p q e.0 less behind.0, further p q es less behind.1)

  none_below : (p : Prefix) (e : Prefix × X) (es : List (Prefix × X)) → prefix_cmp p e.0 ≡ Less → AreBehind e.0 es → found (e ∷ es) p ≡ None
  none_below p e es less behind = none_behind p (e ∷ es) (less, further p e.0 es less behind)

  pub found_head : (e : Prefix × X) (es : List (Prefix × X)) → found (e ∷ es) e.0 ≡ Some e.1
  found_head e es = ap (λ b. cond b (Some e.1) (found es e.0)) (is_at-refl e.0)

  absurd_none : {P : Type 0} (o : Option X) (x : X) → o ≡ None → o ≡ Some x → P
  absurd_none None x none some = absurd (cc)
  absurd_none (Some y) x none some = absurd (cc)

  some_value : (x y : X) → (let some : Option X = Some x in some) ≡ Some y → x ≡ y
  some_value x y same = cc

  head_case : (e f : Prefix × X) (es fs : List (Prefix × X)) (r : Ordering) → prefix_cmp e.0 f.0 ≡ r → prefix_cmp f.0 e.0 ≡ ordering_reverse r → AreBehind e.0 es → AreBehind f.0 fs
      → ((p : Prefix) → found (e ∷ es) p ≡ found (f ∷ fs) p) → e.0 ≡ f.0
  head_case e f es fs Less is back rising also same = absurd_none (found (f ∷ fs) e.0) e.1 (none_below e.0 f fs is also) (sym (same e.0) ∙ found_head e es)
  head_case e f es fs Equal is back rising also same = prefix_cmp_exact e.0 f.0 is
  head_case e f es fs Greater is back rising also same = absurd_none (found (e ∷ es) f.0) f.1 (none_below f.0 e es back rising) (same f.0 ∙ found_head f fs)

  tail_case : (e f : Prefix × X) (es fs : List (Prefix × X)) (p : Prefix) (b : Bool) → is_eq (prefix_cmp p e.0) ≡ b → e.0 ≡ f.0 → AreBehind e.0 es → AreBehind f.0 fs
      → cond b (Some e.1) (found es p) ≡ cond b (Some f.1) (found fs p) → found es p ≡ found fs p
  tail_case e f es fs p true is one rising also same =
      let own : p ≡ e.0 = one_prefix p e.0 is in
      ap (found es) own ∙ none_behind e.0 es rising ∙ sym (none_behind f.0 fs also) ∙ ap (found fs) (sym (own ∙ one))
  tail_case e f es fs p false is one rising also same = same

  -- rising tables of which the same is found at each prefix are one
  pub same_found : (es fs : List (Prefix × X)) → IsRising es → IsRising fs → ((p : Prefix) → found es p ≡ found fs p) → es ≡ fs
  unfolding IsStrictlySortedBy
  same_found [] [] rising also same = refl
  same_found [] (f ∷ fs) rising also same = absurd_none (found (f ∷ fs) f.0) f.1 (sym (same f.0)) (found_head f fs)
  same_found (e ∷ es) [] rising also same = absurd_none (found (e ∷ es) e.0) e.1 (same e.0) (found_head e es)
  same_found (e ∷ es) (f ∷ fs) rising also same =
      let one : e.0 ≡ f.0 = head_case e f es fs (prefix_cmp e.0 f.0) refl (prefix_cmp_total.antisymm f.0 e.0) rising.0 also.0 same in
      let value : e.1 ≡ f.1 = some_value e.1 f.1 (sym (found_head e es) ∙ same e.0 ∙ ap (found (f ∷ fs)) one ∙ found_head f fs) in
      let more : es ≡ fs = same_found es fs rising.1 also.1
      (λ p. tail_case e f es fs p (is_eq (prefix_cmp p e.0)) refl one rising.0 also.0 (same p ∙ ap (λ k. cond (is_eq (prefix_cmp p k)) (Some f.1) (found fs p)) (sym one))) in
      λ i. (one i, value i) ∷ more i

-- ---- what is read of each entry

-- with what is read of one entry, if anything is, before others
abbrev before : {X : Type 0} → Prefix → Option X → List (Prefix × X) → List (Prefix × X)
before p o rest = cons_option (option_map (λ x. (p, x)) o) rest

module _ {X : Type 0} where
  behind_more : (k p : Prefix) (o : Option X) (rest : List (Prefix × X)) → prefix_cmp k p ≡ Less → AreBehind k rest → AreBehind k (before p o rest)
  behind_more k p None rest less behind = behind
  behind_more k p (Some x) rest less behind = (less, behind)

  rising_more : (p : Prefix) (o : Option X) (rest : List (Prefix × X)) → AreBehind p rest → IsRising rest → IsRising (before p o rest)
  unfolding IsStrictlySortedBy
  rising_more p None rest behind rising = rising
  rising_more p (Some x) rest behind rising = (behind, rising)

  found_before : (p q : Prefix) (o : Option X) (rest : List (Prefix × X)) (b : Bool) → is_eq (prefix_cmp q p) ≡ b → AreBehind p rest → found (before p o rest) q ≡ cond b o (found rest q)
  found_before p q None rest true is behind = ap (found rest) (one_prefix q p is) ∙ none_behind p rest behind
  found_before p q None rest false is behind = refl
  found_before p q (Some x) rest b is behind = ap (λ c. cond c (Some x) (found rest q)) is

  kept_before : (test : Prefix → Bool) (p : Prefix) (o : Option X) (rest : List (Prefix × X)) (b : Bool) → test p ≡ b
      → cond b (before p o (filter (λ e. test e.0) rest)) (filter (λ e. test e.0) rest) ≡ filter (λ e. test e.0) (before p o rest)
  kept_before test p None rest true is = refl
  kept_before test p None rest false is = refl
  kept_before test p (Some x) rest b is = ap (λ c. cond c ((p, x) ∷ filter (λ e. test e.0) rest) (filter (λ e. test e.0) rest)) (sym is)

  all_before : (Q : X → Type 0) (p : Prefix) (o : Option X) (rest : List (Prefix × X)) → IfSome o Q → All Q (values_of rest) → All Q (values_of (before p o rest))
  all_before Q p None rest is all = all
  all_before Q p (Some x) rest is all = All-cons Q x (values_of rest) is all

only : (b : Bool) → (b && not false) ≡ b
only true = refl
only false = refl

pub whole : {X : Type 0} (es : List (Prefix × X)) → filter (λ e. true) es ≡ es
whole [] = refl
whole (e ∷ es) = ap (λ l. e ∷ l) (whole es)

read_put : {R X : Type 0} (read : R → Option X) (b : Bool) (o w : Option R) → option_and_then read (cond b o w) ≡ cond b (option_and_then read o) (option_and_then read w)
read_put read true o w = refl
read_put read false o w = refl

stays_case : {X : Type 0} (b : Bool) (o w : Option X) → (b ≡ true → o ≡ w) → cond b o w ≡ w
stays_case true o w same = same refl
stays_case false o w same = refl

module _ {R X : Type 0} (read : R → Option X) where
  abbrev pick : List (Prefix × R) → List (Prefix × X)
  pick es = picked read es

  pub picked_behind : (k : Prefix) (es : List (Prefix × R)) → AreBehind k es → AreBehind k (pick es)
  picked_behind k [] behind = tt
  picked_behind k (e ∷ es) behind = behind_more k e.0 (read e.1) (pick es) behind.0 (picked_behind k es behind.1)

  -- it rises
  pub picked_rising : (es : List (Prefix × R)) → IsRising es → IsRising (pick es)
  unfolding IsStrictlySortedBy
  picked_rising [] rising = tt
  picked_rising (e ∷ es) rising = rising_more e.0 (read e.1) (pick es) (picked_behind e.0 es rising.0) (picked_rising es rising.1)

  found_case : (e : Prefix × R) (es : List (Prefix × R)) (q : Prefix) (b : Bool) → found (pick es) q ≡ option_and_then read (found es q) → cond b (read e.1) (found (pick es) q) ≡ option_and_then read (cond b (Some e.1) (found es q))
  found_case e es q true more = refl
  found_case e es q false more = more

  -- what is found in it is read of what is found
  pub picked_found : (es : List (Prefix × R)) → IsRising es → (q : Prefix) → found (pick es) q ≡ option_and_then read (found es q)
  unfolding IsStrictlySortedBy
  picked_found [] rising q = refl
  picked_found (e ∷ es) rising q =
      found_before e.0 q (read e.1) (pick es) (is_eq (prefix_cmp q e.0)) refl (picked_behind e.0 es rising.0)
      ∙ found_case e es q (is_eq (prefix_cmp q e.0)) (picked_found es rising.1 q)

  kept_case : (b : Bool) (e : Prefix × R) (es : List (Prefix × R)) → pick (cond b (e ∷ es) es) ≡ cond b (before e.0 (read e.1) (pick es)) (pick es)
  kept_case true e es = refl
  kept_case false e es = refl

  -- of the entries of some prefixes, it is what is read of these prefixes
  pub picked_filter : (test : Prefix → Bool) (es : List (Prefix × R)) → pick (filter (λ e. test e.0) es) ≡ filter (λ e. test e.0) (pick es)
  picked_filter test [] = refl
  picked_filter test (e ∷ es) =
      kept_case (test e.0) e (filter (λ x. test x.0) es)
      ∙ ap (λ l. cond (test e.0) (before e.0 (read e.1) l) l) (picked_filter test es)
      ∙ kept_before test e.0 (read e.1) (pick es) (test e.0) refl

  pub picked_between : (lo hi : Bound Prefix) (es : List (Prefix × R)) → pick (entries_between prefix_cmp lo hi es) ≡ entries_between prefix_cmp lo hi (pick es)
  picked_between lo hi es = picked_filter (range_contains prefix_cmp lo hi) es

  -- of a range above a prefix
  pub picked_above : (p : Prefix) (es : List (Prefix × R)) → pick (entries_between prefix_cmp (Excluded p) Unbounded es) ≡ all_after (Some p) (pick es)
  picked_above p es =
      picked_between (Excluded p) Unbounded es
      ∙ filter_agree (λ e. range_contains prefix_cmp (Excluded p) Unbounded e.0) (λ e. is_lt (prefix_cmp p e.0)) (λ e. only (is_lt (prefix_cmp p e.0))) (pick es)

  -- of the range without bounds
  pub picked_all : (es : List (Prefix × R)) → pick (entries_between prefix_cmp Unbounded Unbounded es) ≡ all_after None (pick es)
  picked_all es = picked_between Unbounded Unbounded es ∙ whole (pick es)

  -- what holds of whatever is read
  pub picked_each : (P : R → Type 0) (Q : X → Type 0) → ((r : R) → P r → IfSome (read r) Q) → (es : List (Prefix × R)) → All P (values_of es) → All Q (values_of (pick es))
  picked_each P Q each [] all = All-nil Q
  picked_each P Q each (e ∷ es) all =
      all_before Q e.0 (read e.1) (pick es) (each e.1 (All-head P e.1 (values_of es) all)) (picked_each P Q each es (All-tail P e.1 (values_of es) all))

  -- ---- of entries one after another

  pub picked_none : (e : Prefix × R) (es : List (Prefix × R)) → read e.1 ≡ None → pick (e ∷ es) ≡ pick es
  picked_none e es none = ap (λ o. before e.0 o (pick es)) none

  pub picked_some : (e : Prefix × R) (es : List (Prefix × R)) (x : X) → read e.1 ≡ Some x → pick (e ∷ es) ≡ (e.0, x) ∷ pick es
  picked_some e es x some = ap (λ o. before e.0 o (pick es)) some

  pub first_passed : (e : Prefix × R) (es : List (Prefix × R)) → read e.1 ≡ None → first_key (pick (e ∷ es)) ≡ first_key (pick es)
  first_passed e es none = ap first_key (picked_none e es none)

  first_case : (p : Prefix) (o : Option X) (rest : List (Prefix × X)) → IsSome o → first_key (before p o rest) ≡ Some p
  first_case p None rest is = absurd (cc)
  first_case p (Some x) rest is = refl

  pub first_reached : (e : Prefix × R) (es : List (Prefix × R)) → IsSome (read e.1) → first_key (pick (e ∷ es)) ≡ Some e.0
  first_reached e es is = first_case e.0 (read e.1) (pick es) is

  pub picked_append : (es fs : List (Prefix × R)) → pick (es ++ fs) ≡ pick es ++ pick fs
  picked_append es fs = filter_map-append (λ e. option_map (λ x. (e.0, x)) (read e.1)) es fs

  -- ---- of tables that differ in little

  module _ (old new : List (Prefix × R)) (rising : IsRising old) (also : IsRising new) where
    -- of which the same is read at each prefix
    pub picked_same : ((q : Prefix) → option_and_then read (found new q) ≡ option_and_then read (found old q)) → pick new ≡ pick old
    picked_same same = same_found (pick new) (pick old) (picked_rising new also) (picked_rising old rising) (λ q. picked_found new also q ∙ same q ∙ sym (picked_found old rising q))

    module _ (p : Prefix) (o : Option R) (put : (q : Prefix) → found new q ≡ cond (is_eq (prefix_cmp p q)) o (found old q)) where
      -- one prefix has another record, or none
      pub picked_put : (q : Prefix) → found (pick new) q ≡ cond (is_eq (prefix_cmp p q)) (option_and_then read o) (found (pick old) q)
      picked_put q =
          picked_found new also q ∙ ap (option_and_then read) (put q) ∙ read_put read (is_eq (prefix_cmp p q)) o (found old q)
          ∙ ap (cond (is_eq (prefix_cmp p q)) (option_and_then read o)) (sym (picked_found old rising q))

      -- of which the same is read
      pub picked_stays : option_and_then read o ≡ option_and_then read (found old p) → pick new ≡ pick old
      picked_stays same = picked_same (λ q.
          ap (option_and_then read) (put q) ∙ read_put read (is_eq (prefix_cmp p q)) o (found old q)
          ∙ stays_case (is_eq (prefix_cmp p q)) (option_and_then read o) (option_and_then read (found old q)) (λ is. same ∙ ap (λ k. option_and_then read (found old k)) (one_prefix p q is)))

    -- each prefix but one has the same record
    pub picked_others : (p : Prefix) → ((q : Prefix) → is_eq (prefix_cmp p q) ≡ false → found new q ≡ found old q) → (q : Prefix) → is_eq (prefix_cmp p q) ≡ false → found (pick new) q ≡ found (pick old) q
    picked_others p others q other = picked_found new also q ∙ ap (option_and_then read) (others q other) ∙ sym (picked_found old rising q)

    -- and of that one the same is read
    pub picked_kept : (p : Prefix) → ((q : Prefix) → is_eq (prefix_cmp p q) ≡ false → found new q ≡ found old q) → option_and_then read (found new p) ≡ option_and_then read (found old p) → pick new ≡ pick old
    picked_kept p others same = picked_same (λ q. by_prefix q (is_eq (prefix_cmp p q)) refl)
      where
        by_prefix : (q : Prefix) (b : Bool) → is_eq (prefix_cmp p q) ≡ b → option_and_then read (found new q) ≡ option_and_then read (found old q)
        by_prefix q true is = subst (λ k. option_and_then read (found new k) ≡ option_and_then read (found old k)) (one_prefix p q is) same
        by_prefix q false is = ap (option_and_then read) (others q is)

-- what is read of what is read
fused_case : {R X Y : Type 0} (read : R → Option X) (more : X → Option Y) (p : Prefix) (o : Option X) (rest : List (Prefix × X)) → picked more (before p o rest) ≡ before p (option_and_then more o) (picked more rest)
fused_case read more p None rest = refl
fused_case read more p (Some x) rest = refl

pub picked_twice : {R X Y : Type 0} (read : R → Option X) (more : X → Option Y) (es : List (Prefix × R)) → picked more (picked read es) ≡ picked (λ r. option_and_then more (read r)) es
picked_twice read more [] = refl
picked_twice read more (e ∷ es) = fused_case read more e.0 (read e.1) (picked read es) ∙ ap (before e.0 (option_and_then more (read e.1))) (picked_twice read more es)

-- and of a table whose values were changed
pub picked_map : {R S X : Type 0} (read : S → Option X) (f : R → S) (es : List (Prefix × R)) → picked read (map (λ e. (e.0, f e.1)) es) ≡ picked (λ r. read (f r)) es
picked_map read f [] = refl
picked_map read f (e ∷ es) = ap (before e.0 (read (f e.1))) (picked_map read f es)

-- what is read so is changed
mapped_case : {X Y : Type 0} (f : X → Y) (p : Prefix) (o : Option X) (rest : List (Prefix × X)) → map (λ (e : Prefix × X). (e.0, f e.1)) (before p o rest) ≡ before p (option_map f o) (map (λ e. (e.0, f e.1)) rest)
mapped_case f p None rest = refl
mapped_case f p (Some x) rest = refl

pub map_picked : {R X Y : Type 0} (read : R → Option X) (f : X → Y) (es : List (Prefix × R)) → map (λ (e : Prefix × X). (e.0, f e.1)) (picked read es) ≡ picked (λ r. option_map f (read r)) es
map_picked read f [] = refl
map_picked read f (e ∷ es) = mapped_case f e.0 (read e.1) (picked read es) ∙ ap (before e.0 (option_map f (read e.1))) (map_picked read f es)

-- two ways to read that agree
pub picked_alike : {R X : Type 0} (read also : R → Option X) → ((r : R) → read r ≡ also r) → (es : List (Prefix × R)) → picked read es ≡ picked also es
picked_alike read also same [] = refl
picked_alike read also same (e ∷ es) = ap (λ o. before e.0 o (picked read es)) (same e.1) ∙ ap (before e.0 (also e.1)) (picked_alike read also same es)
