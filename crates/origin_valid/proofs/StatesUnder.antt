-- The state of a route's origin by what exceptions make of a set, part by part.
use Rattle.std.proofs.Common.{◌≡◌, ◌≤◌, ◌<◌, ◌+◌, ◌&&◌, ◌||◌, ◌++◌, ◌==◌, ℕ, Bool, true, false, not, cond, nat_lt, List, [], ◌∷◌, Option, filter, refl, sym, ap, subst, ◌∙◌, arith}
use Rattle.std.proofs.lemmas.Bool.{and_parts, cases_order, eqb-true, eq-eqb}
use Rattle.std.proofs.lemmas.Bool.Decides.{nat_tests}
use Rattle.std.proofs.lemmas.List.Elements.{filter-append}
use Rattle.std.proofs.lemmas.List.Folds.{list_any-append}
use Rattle.std.specs.BTreeMap.{is_at}
use Rattle.std.specs.List.{AllByRecursion, list_any}
use Rattle.net_prefix.specs.PayloadOrder.{payload_cmp}
use Rattle.net_prefix.specs.PayloadSets.{IsPayloadSet, has}
use Rattle.net_prefix.specs.PrefixOrder.{prefix_cmp}
use Rattle.net_prefix.specs.declared.asn.Asn.{Asn}
use Rattle.net_prefix.specs.declared.payload.Vrp.{Vrp}
use Rattle.net_prefix.specs.declared.prefix.Prefix.{Prefix}
use Rattle.net_prefix.proofs.PayloadSets.{payload_cmp_exact, payload_cmp_total}
use Rattle.prefix_trie.specs.CoverWalks.{all_covering, covers}
use Rattle.prefix_trie.proofs.MapLaws.{is_at-refl, one_prefix}
use Rattle.local_exceptions.specs.ExceptionSets.{ExceptionSets, no_exceptions, under}
use Rattle.local_exceptions.specs.Filters.{is_filtered}
use Rattle.local_exceptions.proofs.Matching.{covering_one}
use Rattle.local_exceptions.proofs.Passing.{has-filter}
use Rattle.local_exceptions.proofs.Sets.{under_is, under_none}
use Rattle.origin_valid.specs.KeptPayloads.{AreByPrefix, AreOfPrefix, payloads_of}
use Rattle.origin_valid.specs.StatesUnder.{both, is_kept, is_long}
use Rattle.origin_valid.specs.Validity.{covers_route, matches, validity}
use Rattle.origin_valid.specs.declared.validity.Validity.{Validity}
use Rattle.origin_valid.specs.declared.validity.Validity.TheVariants.{Valid, Invalid, NotFound}
use Rattle.origin_valid.proofs.CoverFacts.{covers_to}
use Rattle.origin_valid.proofs.Members.{any-same}
use Rattle.origin_valid.proofs.States.{covered_none, matched_none}

-- ---- the state by two sets
pub both-none : (s : Validity) → both s NotFound ≡ s
both-none Valid = refl
both-none Invalid = refl
both-none NotFound = refl

pub both-assoc : (a b c : Validity) → both (both a b) c ≡ both a (both b c)
both-assoc Valid b c = refl
both-assoc Invalid Valid c = refl
both-assoc Invalid Invalid Valid = refl
both-assoc Invalid Invalid Invalid = refl
both-assoc Invalid Invalid NotFound = refl
both-assoc Invalid NotFound c = refl
both-assoc NotFound b c = refl

both_case : (m n c d : Bool) → cond (m || n) Valid (cond (c || d) Invalid NotFound) ≡ both (cond m Valid (cond c Invalid NotFound)) (cond n Valid (cond d Invalid NotFound))
both_case true n c d = refl
both_case false true true d = refl
both_case false true false d = refl
both_case false false true true = refl
both_case false false true false = refl
both_case false false false d = refl

abbrev Own : Prefix → List Vrp → Type 0
Own p set = AllByRecursion (λ v. v.prefix ≡ p) set

own_filter : (test : Vrp → Bool) (p : Prefix) (set : List Vrp) → Own p set → Own p (filter test set)
own_filter test p [] own = tt
own_filter test p (v ∷ set) own = first (test v) (own_filter test p set own.1) where
  first : (t : Bool) → Own p (filter test set) → Own p (cond t (v ∷ filter test set) (filter test set))
  first true more = (own.0, more)
  first false more = more

-- whether the payload's prefix is shorter than this
abbrev pub is_shorter : ℕ → Vrp → Bool
is_shorter len payload = nat_lt payload.prefix.len len

-- whether the payload has this prefix
abbrev pub is_of : Prefix → Vrp → Bool
is_of outer payload = is_at (prefix_cmp outer) payload.prefix

module _ (prefix : Prefix) (origin : Option Asn) where
  abbrev state : List Vrp → Validity
  state set = validity set prefix origin

  pub validity-append : (a b : List Vrp) → state (a ++ b) ≡ both (state a) (state b)
  validity-append a b =
      rw (list_any-append (matches prefix origin) a b, list_any-append (covers_route prefix) a b)
      (both_case (list_any (matches prefix origin) a) (list_any (matches prefix origin) b) (list_any (covers_route prefix) a) (list_any (covers_route prefix) b))

  -- sets that have the same of the payloads which cover the prefix
  pub validity-same : (a b : List Vrp) → ((v : Vrp) → covers_route prefix v ≡ true → has a v ≡ has b v) → state a ≡ state b
  validity-same a b same =
      let covered : list_any (covers_route prefix) a ≡ list_any (covers_route prefix) b = any-same payload_cmp_total payload_cmp_exact (covers_route prefix) a b same in
      let matched : list_any (matches prefix origin) a ≡ list_any (matches prefix origin) b =
      any-same payload_cmp_total payload_cmp_exact (matches prefix origin) a b (λ v h. same v (and_parts (covers_route prefix v) _ h).0) in
      ap (λ b. cond b Valid (cond (list_any (covers_route prefix) a) Invalid NotFound)) matched
      ∙ ap (λ c. cond (list_any (matches prefix origin) b) Valid (cond c Invalid NotFound)) covered

  -- a set that has what two have
  pub validity-parts : (a b c : List Vrp) → ((v : Vrp) → has c v ≡ (has a v || has b v)) → state c ≡ both (state a) (state b)
  validity-parts a b c is = validity-same c (a ++ b) (λ v _. is v ∙ sym (list_any-append (is_at (payload_cmp v)) a b)) ∙ validity-append a b

  turned : (a b : Bool) → (a && b) ≡ (b && a)
  turned true true = refl
  turned true false = refl
  turned false true = refl
  turned false false = refl

  -- what the exceptions make of a set: what is kept of it, and what is asserted
  pub validity-under : (e : ExceptionSets) (set : List Vrp) → state (under e set) ≡ both (state (filter (is_kept e) set)) (state e.asserted)
  validity-under e set =
      validity-parts (filter (is_kept e) set) e.asserted (under e set) (λ v.
      under_is e set v ∙ ap (λ b. b || has e.asserted v) (turned (has set v) (not (is_filtered e.filters v)) ∙ sym (has-filter (is_kept e) set v)))

  -- ---- a walk over payloads that pass a test
  -- some first ones of those that are left were judged
  pub judged_more : (test : Vrp → Bool) (whole so_far one new : Validity) (left first next : List Vrp) → left ≡ first ++ next → whole ≡ both so_far (state (filter test left))
      → one ≡ state (filter test first) → new ≡ both so_far one → whole ≡ both new (state (filter test next))
  judged_more test whole so_far one new left first next is before here now =
      before
      ∙ ap (λ l. both so_far (state (filter test l))) is
      ∙ ap (both so_far) (ap state (filter-append test first next) ∙ validity-append (filter test first) (filter test next))
      ∙ sym (both-assoc so_far (state (filter test first)) (state (filter test next)))
      ∙ ap (λ s. both s (state (filter test next))) (ap (both so_far) (sym here) ∙ sym now)

  -- none is left that passes
  pub judged_all : (test : Vrp → Bool) (whole so_far : Validity) (left : List Vrp) → filter test left ≡ [] → whole ≡ both so_far (state (filter test left)) → so_far ≡ whole
  judged_all test whole so_far left none before = sym (before ∙ ap (λ l. both so_far (state l)) none ∙ both-none so_far)

  -- the first payload, and the others
  pub judged_first : (test : Vrp → Bool) (one rest new : Validity) (v : Vrp) (others : List Vrp) → one ≡ state (filter test (v ∷ [])) → rest ≡ state (filter test others) → new ≡ both one rest
      → new ≡ state (filter test (v ∷ others))
  judged_first test one rest new v others here there now =
      now ∙ rw (here, there) refl
      ∙ sym (ap state (filter-append test (v ∷ []) others) ∙ validity-append (filter test (v ∷ [])) (filter test others))

  -- what is kept, and what is asserted
  pub judged_under : (e : ExceptionSets) (set asserted : List Vrp) (one other new : Validity) → asserted ≡ e.asserted → one ≡ state (filter (is_kept e) set) → other ≡ state asserted
      → new ≡ both one other → new ≡ state (under e set)
  judged_under e set asserted one other new are kept there now =
      now ∙ rw (kept, there) (ap (λ l. both (state (filter (is_kept e) set)) (state l)) are) ∙ sym (validity-under e set)

  -- no exceptions
  pub judged_alone : (e : ExceptionSets) (set : List Vrp) (s : Validity) → e ≡ no_exceptions → s ≡ state set → s ≡ state (under e set)
  judged_alone e set s none is = is ∙ sym (ap (λ (x : ExceptionSets). state (under x set)) none ∙ ap state (under_none set))

  -- ---- the entries that cover
  apart : (p : Prefix) (set : List Vrp) → Own p set → covers p prefix ≡ false → state set ≡ NotFound
  apart p set own h = rw (matched_none prefix origin p set own h, covered_none prefix origin p set own h) refl

  entry_case : (test : Vrp → Bool) (e : Prefix × List Vrp) (es : List (Prefix × List Vrp)) (b : Bool) → covers e.0 prefix ≡ b → AreOfPrefix e.0 e.1
      → state (filter test (payloads_of es)) ≡ state (filter test (payloads_of (all_covering prefix es)))
      → state (filter test (e.1 ++ payloads_of es)) ≡ state (filter test (payloads_of (cond b (e ∷ all_covering prefix es) (all_covering prefix es))))
  entry_case test e es true at of_prefix more =
      ap state (filter-append test e.1 (payloads_of es))
      ∙ validity-append (filter test e.1) (filter test (payloads_of es))
      ∙ ap (both (state (filter test e.1))) more
      ∙ sym (validity-append (filter test e.1) (filter test (payloads_of (all_covering prefix es))))
      ∙ ap state (sym (filter-append test e.1 (payloads_of (all_covering prefix es))))
  entry_case test e es false at of_prefix more =
      ap state (filter-append test e.1 (payloads_of es))
      ∙ validity-append (filter test e.1) (filter test (payloads_of es))
      ∙ ap (λ s. both s (state (filter test (payloads_of es)))) (apart e.0 (filter test e.1) (own_filter test e.0 e.1 of_prefix.own) at)
      ∙ more

  entries_covering : (test : Vrp → Bool) (es : List (Prefix × List Vrp)) → AllByRecursion (λ e. AreOfPrefix e.0 e.1) es
      → state (filter test (payloads_of es)) ≡ state (filter test (payloads_of (all_covering prefix es)))
  entries_covering test [] each = refl
  entries_covering test (e ∷ es) each = entry_case test e es (covers e.0 prefix) refl each.0 (entries_covering test es each.1)

  -- those that cover are all that count
  pub validity-covering : (test : Vrp → Bool) (es : List (Prefix × List Vrp)) → AreByPrefix es → state (filter test (payloads_of es)) ≡ state (filter test (payloads_of (all_covering prefix es)))
  validity-covering test es h = entries_covering test es h.each

  -- ---- by the lengths of prefixes
  below_none : (n : ℕ) → nat_lt n 0 ≡ false
  below_none n = grind (arith, nat_tests)

  below_next : (n len : ℕ) → nat_lt n (len + 1) ≡ (nat_lt n len || (n == len))
  below_next n len = grind (arith, nat_tests)

  below_own : (n len : ℕ) → n ≤ len → nat_lt n (len + 1) ≡ true
  below_own n len h = grind (arith, nat_tests)

  pub shorter-none : (set : List Vrp) → NotFound ≡ state (filter (is_shorter 0) set)
  shorter-none set = validity-same [] (filter (is_shorter 0) set) (λ v _. sym (has-filter (is_shorter 0) set v ∙ ap (λ b. b && has set v) (below_none v.prefix.len)))

  split : (a b h : Bool) → ((a || b) && h) ≡ ((a && h) || (b && h))
  split true true true = refl
  split true true false = refl
  split true false true = refl
  split true false false = refl
  split false b h = refl

  -- those of one length more were judged
  pub shorter-next : (set : List Vrp) (len : ℕ) (so_far one new : Validity) → so_far ≡ state (filter (is_shorter len) set) → one ≡ state (filter (is_long len) set) → new ≡ both so_far one
      → new ≡ state (filter (is_shorter (len + 1)) set)
  shorter-next set len so_far one new before here now =
      now ∙ rw (before, here) refl
      ∙ sym (validity-parts (filter (is_shorter len) set) (filter (is_long len) set) (filter (is_shorter (len + 1)) set) (λ v.
      has-filter (is_shorter (len + 1)) set v ∙ ap (λ b. b && has set v) (below_next v.prefix.len len) ∙ split (nat_lt v.prefix.len len) (v.prefix.len == len) (has set v)
      ∙ rw (has-filter (is_shorter len) set v, has-filter (is_long len) set v) refl))

  -- all that cover the prefix are no longer than it
  pub shorter-all : (set : List Vrp) → state (filter (is_shorter (prefix.len + 1)) set) ≡ state set
  shorter-all set =
      validity-same (filter (is_shorter (prefix.len + 1)) set) set (λ v h.
      has-filter (is_shorter (prefix.len + 1)) set v ∙ ap (λ b. b && has set v) (below_own v.prefix.len prefix.len (covers_to v.prefix prefix h).0))

  -- ---- of one prefix
  alike : (b c : Bool) → (b ≡ true → c ≡ true) → (c ≡ true → b ≡ true) → b ≡ c
  alike true c to from = sym (to refl)
  alike false true to from = from refl
  alike false false to from = refl

  -- of the prefixes of one length just one covers another prefix
  pub validity-long : (outer : Prefix) (set : List Vrp) → covers outer prefix ≡ true → state (filter (is_long outer.len) set) ≡ state (filter (is_of outer) set)
  validity-long outer set over =
      validity-same (filter (is_long outer.len) set) (filter (is_of outer) set) (λ v h.
      has-filter (is_long outer.len) set v
      ∙ ap (λ b. b && has set v)
      (alike (is_long outer.len v) (is_of outer v)
      (λ long. subst (λ (k : Prefix). is_at (prefix_cmp outer) k ≡ true) (covering_one outer v.prefix prefix over h (sym (eqb-true v.prefix.len outer.len long))) (is_at-refl outer))
      (λ at. eq-eqb v.prefix.len outer.len (ap (λ (k : Prefix). k.len) (sym (one_prefix outer v.prefix at)))))
      ∙ sym (has-filter (is_of outer) set v))
