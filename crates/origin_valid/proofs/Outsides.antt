-- The prefixes outside those that come before them are the stretches.
use Rattle.std.proofs.Common.{◌≡◌, ◌≤◌, ◌<◌, ◌&&◌, ◌||◌, ◌++◌, Bool, true, false, not, cond, List, [], ◌∷◌, Option, None, Some, filter, inl, inr, refl, sym, ap, subst, ◌∙◌, arith}
use Rattle.std.proofs.lemmas.Bool.{cases_order}
use Rattle.std.proofs.lemmas.List.Folds.{list_any-append}
use Rattle.std.proofs.lemmas.Map.Lookups.{btree_set_from_contains}
use Rattle.std.specs.BTreeMap.{is_at}
use Rattle.std.specs.List.{AllByRecursion, list_any}
use Rattle.std.specs.List.Sorted.{IsStrictlySortedBy}
use Rattle.std.specs.Ordering.{nat_cmp, ordering_then}
use Rattle.std.specs.declared.cmp.Ordering.{Ordering}
use Rattle.std.specs.declared.cmp.Ordering.TheVariants.{Less, Equal, Greater}
use Rattle.net_prefix.specs.PayloadOrder.{payload_cmp}
use Rattle.net_prefix.specs.PayloadSets.{IsPayloadSet, has}
use Rattle.net_prefix.specs.PrefixOrder.{prefix_cmp}
use Rattle.net_prefix.specs.declared.payload.Vrp.{Vrp}
use Rattle.net_prefix.specs.declared.prefix.Prefix.{Prefix}
use Rattle.net_prefix.proofs.PayloadSets.{any-filter, any-insert_key, payload_cmp_exact, payload_cmp_total, prefix_cmp_exact, prefix_cmp_total, sorted-filter, sorted-insert_key}
use Rattle.net_prefix.proofs.Ranks.{cmp_below, less_rank, rank}
use Rattle.local_exceptions.proofs.Passing.{has-filter}
use Rattle.prefix_trie.specs.CoverWalks.{covers}
use Rattle.prefix_trie.proofs.MapLaws.{is_at-refl, one_prefix}
use Rattle.origin_valid.specs.Stretches.{covers_other, in_order, prefixes_of, stretches}
use Rattle.origin_valid.specs.StretchWalks.{is_inside, outside}
use Rattle.origin_valid.proofs.CoverFacts.{apart-turned, covers-between, covers-further, covers-itself, other_below, other_covers, same_rank}
use Rattle.origin_valid.proofs.Members.{any-map, any-same}
use Rattle.vrp_delta.specs.Delta.{Change}

-- the list has the prefix
abbrev pub has_prefix : List Prefix → Prefix → Bool
has_prefix ps q = list_any (is_at (prefix_cmp q)) ps

-- another one of the list covers the prefix
abbrev pub is_covered : List Prefix → Prefix → Bool
is_covered ps q = list_any (λ p. covers_other p q) ps

-- a prefix stands below no other, or is one of them
abbrev pub IsLow : Prefix → List Prefix → Type 0
IsLow p ps = AllByRecursion (λ q. rank p ≤ rank q) ps

-- prefixes rise, and some may stand there several times
abbrev pub Rise : List Prefix → Type 0
Rise [] = Unit {0}
Rise (p ∷ ps) = IsLow p ps × Rise ps

abbrev IsLowLast : Option Prefix → List Prefix → Type 0
IsLowLast None ps = Unit {0}
IsLowLast (Some last) ps = IsLow last ps

low_last : (last : Option Prefix) (p : Prefix) (ps : List Prefix) → IsLowLast last (p ∷ ps) → IsLowLast last ps
low_last None p ps h = tt
low_last (Some last) p ps h = h.1

has_case : (p q r : Prefix) (rs : List Prefix) (b : Bool) → is_at (prefix_cmp q) r ≡ b → rank p ≤ rank r → (has_prefix rs q ≡ true → rank p ≤ rank q) → (b || has_prefix rs q) ≡ true → rank p ≤ rank q
has_case p q r rs true at here more h = subst (λ (k : Prefix). rank p ≤ rank k) (sym (one_prefix q r at)) here
has_case p q r rs false at here more h = more h

low_has : (p q : Prefix) (ps : List Prefix) → IsLow p ps → has_prefix ps q ≡ true → rank p ≤ rank q
low_has p q [] low h = absurd cc
low_has p q (r ∷ rs) low h = has_case p q r rs (is_at (prefix_cmp q) r) refl low.0 (low_has p q rs low.1) h

uncovered_case : (p r : Prefix) (b : Bool) → covers_other r p ≡ b → rank p ≤ rank r → b ≡ false
uncovered_case p r true is low = let below = other_below r p is in absurd (omega arith)
uncovered_case p r false is low = refl

-- none of those that don't stand below a prefix covers it, if it is another one
uncovered : (p : Prefix) (ps : List Prefix) → IsLow p ps → is_covered ps p ≡ false
uncovered p [] low = refl
uncovered p (r ∷ rs) low = let first : covers_other r p ≡ false = uncovered_case p r (covers_other r p) refl low.0 in rw first (uncovered p rs low.1)

-- ---- which prefixes are outside
passed_by : (a m i c o : Bool) → (a ≡ true → i ≡ true) → (c ≡ true → i ≡ true) → (m && (not i && not o)) ≡ ((a || m) && (not i && not (c || o)))
passed_by true m true c o inside further = nothing m where
  nothing : (m : Bool) → (m && false) ≡ false
  nothing true = refl
  nothing false = refl
passed_by true m false c o inside further = let h = inside refl in absurd cc
passed_by false m true c o inside further = refl
passed_by false m false true o inside further = let h = further refl in absurd cc
passed_by false m false false o inside further = refl

kept_by : (a m k i c o : Bool) → (a ≡ true → i ≡ false) → (a ≡ true → c ≡ false) → (a ≡ true → o ≡ false) → (a ≡ false → c ≡ k) → (m ≡ true → i ≡ false)
    → (a || (m && (not k && not o))) ≡ ((a || m) && (not i && not (c || o)))
kept_by true m k i c o outer alone least same apart = rw (outer refl, alone refl, least refl) refl
kept_by false true k i c o outer alone least same apart = rw (same refl, apart refl) (joined k o) where
  joined : (k o : Bool) → (not k && not o) ≡ not (k || o)
  joined true o = refl
  joined false o = refl
kept_by false false k i c o outer alone least same apart = refl

inside_same : (last : Option Prefix) (p q : Prefix) (b : Bool) → is_inside last p ≡ b → is_at (prefix_cmp q) p ≡ true → is_inside last q ≡ b
inside_same last p q b h at = subst (λ (k : Prefix). is_inside last k ≡ b) (sym (one_prefix q p at)) h

inside_further : (last : Option Prefix) (p q : Prefix) → is_inside last p ≡ true → covers p q ≡ true → is_inside last q ≡ true
inside_further None p q h k = absurd cc
inside_further (Some last) p q h k = covers-further last p q h k

inside_between : (last : Option Prefix) (p q : Prefix) (b : Bool) → is_inside last q ≡ b → IsLowLast last (p ∷ []) → rank p ≤ rank q → is_inside last p ≡ false → b ≡ false
inside_between None p q true is low high h = absurd cc
inside_between (Some last) p q true is low high h = let inner = covers-between last p q low.0 high is in absurd cc
inside_between last p q false is low high h = refl

low_first : (last : Option Prefix) (p : Prefix) (ps : List Prefix) → IsLowLast last (p ∷ ps) → IsLowLast last (p ∷ [])
low_first None p ps h = tt
low_first (Some last) p ps h = (h.0, tt)

alone_case : (p q : Prefix) → is_at (prefix_cmp q) p ≡ true → covers_other p q ≡ false
alone_case p q at = subst (λ (k : Prefix). covers_other p k ≡ false) (sym (one_prefix q p at)) (itself (covers p p)) where
  itself : (b : Bool) → (b && not (is_at (prefix_cmp p) p)) ≡ false
  itself true = rw (is_at-refl p) refl
  itself false = refl

and_true : (b : Bool) → (b && true) ≡ b
and_true true = refl
and_true false = refl

same_case : (p q : Prefix) → is_at (prefix_cmp q) p ≡ false → covers_other p q ≡ covers p q
same_case p q apart =
    let none : is_at (prefix_cmp p) q ≡ false = apart-turned q p apart in
    rw none (and_true (covers p q))

step_case : (last : Option Prefix) (p q : Prefix) (ps : List Prefix) (b : Bool) → is_inside last p ≡ b → IsLowLast last (p ∷ ps) → IsLow p ps
    → has_prefix (outside last ps) q ≡ (has_prefix ps q && (not (is_inside last q) && not (is_covered ps q)))
    → has_prefix (outside (Some p) ps) q ≡ (has_prefix ps q && (not (covers p q) && not (is_covered ps q)))
    → has_prefix (cond b (outside last ps) (p ∷ outside (Some p) ps)) q ≡ (has_prefix (p ∷ ps) q && (not (is_inside last q) && not (is_covered (p ∷ ps) q)))
step_case last p q ps true is low rest passed kept =
    passed ∙ passed_by (is_at (prefix_cmp q) p) (has_prefix ps q) (is_inside last q) (covers_other p q) (is_covered ps q)
    (λ at. inside_same last p q true is at) (λ other. inside_further last p q is (other_covers p q other))
step_case last p q ps false is low rest passed kept =
    ap (λ b. is_at (prefix_cmp q) p || b) kept
    ∙ kept_by (is_at (prefix_cmp q) p) (has_prefix ps q) (covers p q) (is_inside last q) (covers_other p q) (is_covered ps q)
    (λ at. inside_same last p q false is at) (alone_case p q) (λ at. subst (λ (k : Prefix). is_covered ps k ≡ false) (sym (one_prefix q p at)) (uncovered p ps rest))
    (same_case p q) (λ there. inside_between last p q (is_inside last q) refl (low_first last p ps low) (low_has p q ps rest there) is)

has-outside : (last : Option Prefix) (ps : List Prefix) (q : Prefix) → Rise ps → IsLowLast last ps
    → has_prefix (outside last ps) q ≡ (has_prefix ps q && (not (is_inside last q) && not (is_covered ps q)))
has-outside last [] q rise low = refl
has-outside last (p ∷ ps) q rise low =
    step_case last p q ps (is_inside last p) refl low rise.0 (has-outside last ps q rise.1 (low_last last p ps low)) (has-outside (Some p) ps q rise.1 rise.0)

-- ---- they rise
below_weaker : (l r : Prefix) (ps : List Prefix) → rank l < rank r → AllByRecursion (λ q. prefix_cmp r q ≡ Less) ps → AllByRecursion (λ q. prefix_cmp l q ≡ Less) ps
below_weaker l r [] less h = tt
below_weaker l r (q ∷ ps) less h = let more = less_rank r q h.0 in (cmp_below l q (omega arith), below_weaker l r ps less h.1)

strictly : (l r : Prefix) → rank l ≤ rank r → covers l r ≡ false → rank l < rank r
strictly l r low apart =
    elim (cases_order (rank l) (rank r)) [
      | inl e ↦ let inner : covers l r ≡ true = subst (λ (k : Prefix). covers l k ≡ true) (same_rank l r e) (covers-itself l) in absurd cc
      | inr (inl less) ↦ less
      | inr (inr more) ↦ absurd (omega arith)
    ]

above_case : (l r : Prefix) (ps : List Prefix) (b : Bool) → covers l r ≡ b → rank l ≤ rank r → AllByRecursion (λ q. prefix_cmp l q ≡ Less) (outside (Some l) ps)
    → AllByRecursion (λ q. prefix_cmp r q ≡ Less) (outside (Some r) ps) → AllByRecursion (λ q. prefix_cmp l q ≡ Less) (cond b (outside (Some l) ps) (r ∷ outside (Some r) ps))
above_case l r ps true is low passed kept = passed
above_case l r ps false is low passed kept = let less = strictly l r low is in (cmp_below l r less, below_weaker l r (outside (Some r) ps) less kept)

above_outside : (l : Prefix) (ps : List Prefix) → Rise ps → IsLow l ps → AllByRecursion (λ q. prefix_cmp l q ≡ Less) (outside (Some l) ps)
above_outside l [] rise low = tt
above_outside l (r ∷ ps) rise low = above_case l r ps (covers l r) refl low.0 (above_outside l ps rise.1 low.1) (above_outside r ps rise.1 rise.0)

sorted_case : (last : Option Prefix) (p : Prefix) (ps : List Prefix) (b : Bool) → Rise (p ∷ ps) → IsStrictlySortedBy prefix_cmp (outside last ps) → IsStrictlySortedBy prefix_cmp (outside (Some p) ps)
    → IsStrictlySortedBy prefix_cmp (cond b (outside last ps) (p ∷ outside (Some p) ps))
unfolding IsStrictlySortedBy
sorted_case last p ps true rise passed kept = passed
sorted_case last p ps false rise passed kept = (above_outside p ps rise.1 rise.0, kept)

sorted-outside : (last : Option Prefix) (ps : List Prefix) → Rise ps → IsStrictlySortedBy prefix_cmp (outside last ps)
unfolding IsStrictlySortedBy
sorted-outside last [] rise = tt
sorted-outside last (p ∷ ps) rise = sorted_case last p ps (is_inside last p) rise (sorted-outside last ps rise.1) (sorted-outside (Some p) ps rise.1)

-- ---- the prefixes in order
pub has-in_order : (ps : List Prefix) (q : Prefix) → has_prefix (in_order ps) q ≡ has_prefix ps q
has-in_order [] q = refl
has-in_order (p ∷ ps) q = any-insert_key prefix_cmp_total (in_order ps) p q ∙ ap (λ b. is_at (prefix_cmp q) p || b) (has-in_order ps q)

sorted-in_order : (ps : List Prefix) → IsStrictlySortedBy prefix_cmp (in_order ps)
unfolding IsStrictlySortedBy
sorted-in_order [] = tt
sorted-in_order (p ∷ ps) = sorted-insert_key prefix_cmp_total (in_order ps) p (sorted-in_order ps)

low_sorted : (p : Prefix) (ps : List Prefix) → AllByRecursion (λ q. prefix_cmp p q ≡ Less) ps → IsLow p ps
low_sorted p [] h = tt
low_sorted p (q ∷ ps) h = let less = less_rank p q h.0 in (omega arith, low_sorted p ps h.1)

rise_sorted : (ps : List Prefix) → IsStrictlySortedBy prefix_cmp ps → Rise ps
unfolding IsStrictlySortedBy
rise_sorted [] h = tt
rise_sorted (p ∷ ps) h = (low_sorted p ps h.0, rise_sorted ps h.1)

pub rise-in_order : (ps : List Prefix) → Rise (in_order ps)
rise-in_order ps = rise_sorted (in_order ps) (sorted-in_order ps)

-- the stretches rise
pub sorted-stretches : (ps : List Prefix) → IsStrictlySortedBy prefix_cmp (stretches ps)
sorted-stretches ps = sorted-filter prefix_cmp_total (λ p. not (is_covered ps p)) (in_order ps) (sorted-in_order ps)

pub has-stretches : (ps : List Prefix) (q : Prefix) → has_prefix (stretches ps) q ≡ (not (is_covered ps q) && has_prefix ps q)
has-stretches ps q =
    any-filter prefix_cmp_total (λ p. not (is_covered ps p)) q (λ x at. ap (λ (k : Prefix). not (is_covered ps k)) (sym (prefix_cmp_exact q x at))) (in_order ps)
    ∙ ap (λ b. not (is_covered ps q) && b) (has-in_order ps q)

turned : (b c : Bool) → (b && (true && c)) ≡ (c && b)
turned true true = refl
turned true false = refl
turned false true = refl
turned false false = refl

-- what is outside of prefixes in order are the stretches of lists that have the same ones
pub outside-stretches : (us ps : List Prefix) → Rise us → ((q : Prefix) → has_prefix us q ≡ has_prefix ps q) → outside None us ≡ stretches ps
outside-stretches us ps rise same =
    btree_set_from_contains prefix_cmp_total (record { keys = outside None us }) (record { keys = stretches ps }) (sorted-outside None us rise) (sorted-stretches ps) (λ q.
    has-outside None us q rise tt
    ∙ turned (has_prefix us q) (not (is_covered us q))
    ∙ ap (λ b. not b && has_prefix us q) (any-same prefix_cmp_total prefix_cmp_exact (λ p. covers_other p q) us ps (λ k _. same k))
    ∙ ap (λ b. not (is_covered ps q) && b) (same q) ∙ sym (has-stretches ps q))
    prefix_cmp_exact

-- ---- the prefixes of payloads
low_payload : (p q : Vrp) → payload_cmp p q ≡ Less → rank p.prefix ≤ rank q.prefix
low_payload p q h = order_case (prefix_cmp p.prefix q.prefix) refl h where
  order_case : (r : Ordering) → prefix_cmp p.prefix q.prefix ≡ r → ordering_then r (ordering_then (nat_cmp p.max_len q.max_len) (nat_cmp p.asn.0 q.asn.0)) ≡ Less → rank p.prefix ≤ rank q.prefix
  order_case Less is k = let less = less_rank p.prefix q.prefix is in omega arith
  order_case Equal is k = subst (λ (x : Prefix). rank p.prefix ≤ rank x) (prefix_cmp_exact p.prefix q.prefix is) (omega arith)
  order_case Greater is k = absurd cc

low_payloads : (p : Vrp) (set : List Vrp) → AllByRecursion (λ q. payload_cmp p q ≡ Less) set → IsLow p.prefix (prefixes_of set)
low_payloads p [] h = tt
low_payloads p (q ∷ set) h = (low_payload p q h.0, low_payloads p set h.1)

pub rise-prefixes_of : (set : List Vrp) → IsPayloadSet set → Rise (prefixes_of set)
unfolding IsStrictlySortedBy
rise-prefixes_of [] h = tt
rise-prefixes_of (p ∷ set) h = (low_payloads p set h.0, rise-prefixes_of set h.1)

-- the walk over payloads gives the stretches of a list that has the same ones
pub outside-list : (set list : List Vrp) → IsPayloadSet set → ((q : Vrp) → has set q ≡ has list q) → outside None (prefixes_of set) ≡ stretches (prefixes_of list)
outside-list set list rising is =
    outside-stretches (prefixes_of set) (prefixes_of list) (rise-prefixes_of set rising) (λ q.
    any-map (λ (v : Vrp). v.prefix) (is_at (prefix_cmp q)) set
    ∙ any-same payload_cmp_total payload_cmp_exact (λ (v : Vrp). is_at (prefix_cmp q) v.prefix) set list (λ v _. is v)
    ∙ sym (any-map (λ (v : Vrp). v.prefix) (is_at (prefix_cmp q)) list))

parts : (t w a : Bool) → (t && (w || a)) ≡ ((t && w) || (t && a))
parts true w a = refl
parts false w a = refl

-- the walk over those payloads of a change that pass a test gives their stretches
pub outside-change : (test : Vrp → Bool) (set : List Vrp) (change : Change) → IsPayloadSet set → ((q : Vrp) → has set q ≡ (has change.withdrawn q || has change.announced q))
    → outside None (prefixes_of (filter test set)) ≡ stretches (prefixes_of (filter test change.withdrawn ++ filter test change.announced))
outside-change test set change rising is =
    outside-list (filter test set) (filter test change.withdrawn ++ filter test change.announced) (sorted-filter payload_cmp_total test set rising) (λ q.
    has-filter test set q ∙ ap (λ b. test q && b) (is q) ∙ parts (test q) (has change.withdrawn q) (has change.announced q)
    ∙ rw (list_any-append (is_at (payload_cmp q)) (filter test change.withdrawn) (filter test change.announced), has-filter test change.withdrawn q, has-filter test change.announced q) refl)

twice : (h : Bool) → (h || h) ≡ h
twice true = refl
twice false = refl

-- and so does that over those of a set, each of which is there twice
pub outside-set : (test : Vrp → Bool) (us set : List Vrp) → IsPayloadSet us → ((q : Vrp) → has us q ≡ (has set q || has set q))
    → outside None (prefixes_of (filter test us)) ≡ stretches (prefixes_of (filter test set))
outside-set test us set rising is =
    outside-list (filter test us) (filter test set) (sorted-filter payload_cmp_total test us rising) (λ q.
    has-filter test us q ∙ ap (λ b. test q && b) (is q ∙ twice (has set q)) ∙ sym (has-filter test set q))
