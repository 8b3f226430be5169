-- The payloads of one prefix, found by a walk from its least one on.
use Rattle.std.proofs.Common.{◌≡◌, ◌≤◌, ◌<◌, ◌&&◌, ◌==◌, ℕ, Bool, true, false, not, cond, List, [], ◌∷◌, Option, filter, inl, inr, refl, sym, ap, subst, ◌∙◌, arith}
use Rattle.std.proofs.lemmas.Bool.{and_from, and_parts, cases_order, eqb-true, eq-eqb}
use Rattle.std.proofs.lemmas.Bool.Decides.{nat_tests}
use Rattle.std.specs.BTreeMap.{is_at}
use Rattle.std.specs.Ordering.{is_le, nat_cmp, ordering_then}
use Rattle.std.specs.declared.cmp.Ordering.{Ordering}
use Rattle.std.specs.declared.cmp.Ordering.TheVariants.{Less, Equal, Greater}
use Rattle.net_prefix.specs.PayloadOrder.{payload_cmp}
use Rattle.net_prefix.specs.PayloadSets.{IsPayloadSet, has}
use Rattle.net_prefix.specs.PrefixOrder.{prefix_cmp}
use Rattle.net_prefix.specs.declared.asn.Asn.{Asn}
use Rattle.net_prefix.specs.declared.payload.Vrp.{Vrp}
use Rattle.net_prefix.specs.declared.prefix.Prefix.{Prefix}
use Rattle.net_prefix.proofs.PayloadSets.{payload_cmp_total, prefix_cmp_exact, prefix_cmp_total, sorted-filter}
use Rattle.net_prefix.proofs.Prefixes.{same_prefix}
use Rattle.net_prefix.proofs.Ranks.{less_rank, rank}
use Rattle.prefix_trie.proofs.MapLaws.{is_at-refl, one_prefix}
use Rattle.local_exceptions.proofs.Passing.{has-filter}
use Rattle.origin_valid.specs.Stretches.{prefixes_of}
use Rattle.origin_valid.specs.Validity.{validity}
use Rattle.origin_valid.proofs.CoverFacts.{same_rank}
use Rattle.origin_valid.proofs.Outsides.{IsLow, Rise, rise-prefixes_of}
use Rattle.origin_valid.proofs.StatesUnder.{is_of, validity-same}

-- the least payload that a prefix may have
pub record IsLeast (outer : Prefix) (least : Vrp) : Type 0 where
  pub prefix : least.prefix ≡ outer
  pub max_len : least.max_len ≡ outer.len
  pub asn : least.asn.0 ≡ 0

-- whether a payload doesn't stand below it
abbrev pub is_from : Vrp → Vrp → Bool
is_from least v = is_le (payload_cmp least v) && true

below : (m n : ℕ) → m < n → nat_cmp m n ≡ Less
below m n h = grind (arith, nat_tests)

level : (m n : ℕ) → m ≡ n → nat_cmp m n ≡ Equal
level m n h = grind (arith, nat_tests)

zero_first : (n : ℕ) → is_le (nat_cmp 0 n) ≡ true
zero_first n = grind (arith, nat_tests)

first_length : (m n a : ℕ) → m ≤ n → is_le (ordering_then (nat_cmp m n) (nat_cmp 0 a)) ≡ true
first_length m n a h =
    elim (cases_order m n) [
      | inl e ↦ rw (level m n e) (zero_first a)
      | inr (inl less) ↦ rw (below m n less) refl
      | inr (inr more) ↦ absurd (omega arith)
    ]

equal_prefix : (p q : Prefix) → is_at (prefix_cmp p) q ≡ true → prefix_cmp p q ≡ Equal
equal_prefix p q at = equal (prefix_cmp p q) at where
  equal : (o : Ordering) → is_at (λ (x : Prefix). o) q ≡ true → o ≡ Equal
  equal Less h = absurd cc
  equal Equal h = refl
  equal Greater h = absurd cc

-- a payload of the prefix doesn't stand below it
own_from : (outer : Prefix) (least v : Vrp) → IsLeast outer least → is_of outer v ≡ true → is_from least v ≡ true
own_from outer least v is at =
    let own : outer ≡ v.prefix = one_prefix outer v.prefix at in
    let reaches : outer.len ≤ v.max_len = subst (λ (k : Prefix). k.len ≤ v.max_len) (sym own) v.reaches in
    rw (is.prefix, is.max_len, is.asn, equal_prefix outer v.prefix at, first_length outer.len v.max_len v.asn.0 reaches) refl

-- and one that doesn't is of a prefix that doesn't stand below
low_from : (outer : Prefix) (least v : Vrp) → IsLeast outer least → is_from least v ≡ true → rank outer ≤ rank v.prefix
low_from outer least v is from =
    order_case (prefix_cmp outer v.prefix) refl
    (subst (λ (k : Prefix). (is_le (ordering_then (prefix_cmp k v.prefix) (ordering_then (nat_cmp least.max_len v.max_len) (nat_cmp least.asn.0 v.asn.0))) && true) ≡ true) is.prefix from)
  where
    order_case : (r : Ordering) → prefix_cmp outer v.prefix ≡ r → (is_le (ordering_then r (ordering_then (nat_cmp least.max_len v.max_len) (nat_cmp least.asn.0 v.asn.0))) && true) ≡ true
        → rank outer ≤ rank v.prefix
    order_case Less at k = let less = less_rank outer v.prefix at in omega arith
    order_case Equal at k = subst (λ (x : Prefix). rank outer ≤ rank x) (prefix_cmp_exact outer v.prefix at) (omega arith)
    order_case Greater at k = absurd cc

-- those from it on
pub low_range : (outer : Prefix) (least : Vrp) (set : List Vrp) → IsLeast outer least → IsLow outer (prefixes_of (filter (is_from least) set))
low_range outer least [] is = tt
low_range outer least (v ∷ set) is = first (is_from least v) refl (low_range outer least set is) where
  first : (b : Bool) → is_from least v ≡ b → IsLow outer (prefixes_of (filter (is_from least) set)) → IsLow outer (prefixes_of (cond b (v ∷ filter (is_from least) set) (filter (is_from least) set)))
  first true from more = (low_from outer least v is from, more)
  first false from more = more

pub rise_range : (least : Vrp) (set : List Vrp) → IsPayloadSet set → Rise (prefixes_of (filter (is_from least) set))
rise_range least set rises = rise-prefixes_of (filter (is_from least) set) (sorted-filter payload_cmp_total (is_from least) set rises)

within : (o f h : Bool) → (o ≡ true → f ≡ true) → (o && h) ≡ (o && (f && h))
within true f h from = rw (from refl) refl
within false f h from = refl

-- have all that the prefix has
pub state_range : (prefix : Prefix) (origin : Option Asn) (outer : Prefix) (least : Vrp) (set : List Vrp) → IsLeast outer least
    → validity (filter (is_of outer) set) prefix origin ≡ validity (filter (is_of outer) (filter (is_from least) set)) prefix origin
state_range prefix origin outer least set is =
    validity-same prefix origin (filter (is_of outer) set) (filter (is_of outer) (filter (is_from least) set)) (λ v _.
    has-filter (is_of outer) set v ∙ within (is_of outer v) (is_from least v) (has set v) (own_from outer least v is)
    ∙ ap (λ b. is_of outer v && b) (sym (has-filter (is_from least) set v)) ∙ sym (has-filter (is_of outer) (filter (is_from least) set) v))

-- ---- where the walk ends
above_apart : (outer q : Prefix) (b : Bool) → is_at (prefix_cmp outer) q ≡ b → rank outer < rank q → b ≡ false
above_apart outer q true at less = absurd (irreflexive (subst (λ (k : Prefix). rank outer < rank k) (sym (one_prefix outer q at)) less)) where
  irreflexive : rank outer < rank outer → ⊥
  irreflexive h = omega arith
above_apart outer q false at less = refl

none_above : (outer p : Prefix) (next : List Vrp) → rank outer < rank p → IsLow p (prefixes_of next) → filter (is_of outer) next ≡ []
none_above outer p [] less low = refl
none_above outer p (w ∷ next) less low =
    let apart : is_at (prefix_cmp outer) w.prefix ≡ false = above_apart outer w.prefix (is_at (prefix_cmp outer) w.prefix) refl (omega (arith, low.0)) in
    rw apart (none_above outer p next less low.1)

strictly : (p q : Prefix) → rank p ≤ rank q → is_at (prefix_cmp p) q ≡ false → (p ≡ q → ⊥) → rank p < rank q
strictly p q low apart other =
    elim (cases_order (rank p) (rank q)) [
      | inl e ↦ absurd (other (same_rank p q e))
      | inr (inl less) ↦ less
      | inr (inr more) ↦ absurd (omega arith)
    ]

-- behind another prefix the prefix has none
pub none_behind : (outer : Prefix) (v : Vrp) (left next : List Vrp) → left ≡ v ∷ next → IsLow outer (prefixes_of left) → Rise (prefixes_of left) → is_at (prefix_cmp outer) v.prefix ≡ false
    → filter (is_of outer) left ≡ []
none_behind outer v left next is low rise apart =
    let low_here : IsLow outer (prefixes_of (v ∷ next)) = subst (λ l. IsLow outer (prefixes_of l)) is low in
    let rise_here : Rise (prefixes_of (v ∷ next)) = subst (λ l. Rise (prefixes_of l)) is rise in
    let less : rank outer < rank v.prefix = strictly outer v.prefix low_here.0 apart (λ same. differs (subst (λ (k : Prefix). is_at (prefix_cmp outer) k ≡ false) (sym same) apart)) in
    ap (filter (is_of outer)) is ∙ rw apart (none_above outer v.prefix next less rise_here.0)
  where
    differs : is_at (prefix_cmp outer) outer ≡ false → ⊥
    differs h = let own : is_at (prefix_cmp outer) outer ≡ true = is_at-refl outer in cc

-- ---- the test of the walk
negated : (b c : Bool) → b ≡ not c → b ≡ false → c ≡ true
negated b true is h = refl
negated b false is h = sym (sym is ∙ h)

affirmed : (b c : Bool) → b ≡ not c → b ≡ true → c ≡ false
affirmed b true is h = sym (sym is ∙ h)
affirmed b false is h = refl

-- a payload of the prefix
pub own_prefix : (p outer : Prefix) (b : Bool) → b ≡ not ((p.bits == outer.bits) && (p.len == outer.len)) → b ≡ false → is_at (prefix_cmp outer) p ≡ true
own_prefix p outer b is h =
    let parts = and_parts (p.bits == outer.bits) (p.len == outer.len) (negated b ((p.bits == outer.bits) && (p.len == outer.len)) is h) in
    subst (λ (k : Prefix). is_at (prefix_cmp outer) k ≡ true) (sym (same_prefix p outer (eqb-true p.bits outer.bits parts.0) (eqb-true p.len outer.len parts.1))) (is_at-refl outer)

apart_case : (p outer : Prefix) (b : Bool) → is_at (prefix_cmp outer) p ≡ b → ((p.bits == outer.bits) && (p.len == outer.len)) ≡ false → b ≡ false
apart_case p outer true at h =
    let same : outer ≡ p = one_prefix outer p at in
    let alike : ((p.bits == outer.bits) && (p.len == outer.len)) ≡ true =
    and_from (p.bits == outer.bits) (p.len == outer.len) (eq-eqb p.bits outer.bits (ap (λ (k : Prefix). k.bits) (sym same))) (eq-eqb p.len outer.len (ap (λ (k : Prefix). k.len) (sym same))) in
    sym alike ∙ h
apart_case p outer false at h = refl

-- a payload of another one
pub other_prefix : (p outer : Prefix) (b : Bool) → b ≡ not ((p.bits == outer.bits) && (p.len == outer.len)) → b ≡ true → is_at (prefix_cmp outer) p ≡ false
other_prefix p outer b is h = apart_case p outer (is_at (prefix_cmp outer) p) refl (affirmed b ((p.bits == outer.bits) && (p.len == outer.len)) is h)

-- the state by one payload, which has the prefix
pub own_state : (prefix : Prefix) (origin : Option Asn) (outer : Prefix) (v : Vrp) → is_of outer v ≡ true → validity (v ∷ []) prefix origin ≡ validity (filter (is_of outer) (v ∷ [])) prefix origin
own_state prefix origin outer v at = rw at refl
