-- What lies in the stretches of a change.
use Rattle.std.proofs.Common.{◌≡◌, ◌≢◌, ◌⊎◌, ◌&&◌, ◌||◌, ◌++◌, ◌↔◌, Bool, true, false, not, cond, List, [], ◌∷◌, Option, None, Some, inl, inr, refl, sym, ap, ◌∙◌}
use Rattle.std.proofs.lemmas.Bool.{and_parts, or_parts}
use Rattle.std.proofs.lemmas.List.Elements.{Contains-append_cases, Contains-append_left, Contains-append_right}
use Rattle.std.proofs.lemmas.List.Folds.{list_any-append}
use Rattle.std.specs.BTreeMap.{is_at}
use Rattle.std.specs.List.{Contains, list_any}
use Rattle.net_prefix.specs.Cover.{Covers}
use Rattle.net_prefix.specs.PayloadSets.{has}
use Rattle.net_prefix.specs.PrefixOrder.{prefix_cmp}
use Rattle.net_prefix.specs.declared.asn.Asn.{Asn}
use Rattle.net_prefix.specs.declared.payload.Vrp.{Vrp}
use Rattle.net_prefix.specs.declared.prefix.Prefix.{Prefix}
use Rattle.net_prefix.proofs.Covering.{covers_of_one}
use Rattle.net_prefix.proofs.PayloadSets.{payload_cmp_exact, payload_cmp_total, prefix_cmp_exact, prefix_cmp_total}
use Rattle.prefix_trie.specs.CoverWalks.{covers}
use Rattle.prefix_trie.proofs.MapLaws.{is_at-refl, one_prefix}
use Rattle.vrp_delta.specs.Delta.{Change, IsApplied}
use Rattle.origin_valid.specs.Stretches.{changed_prefixes, covers_other, in_order, prefixes_of, stretches}
use Rattle.origin_valid.specs.StretchWalks.{is_inside, outside}
use Rattle.origin_valid.specs.Validity.{CoversRoute, covers_route, matches, validity}
use Rattle.origin_valid.specs.declared.validity.Validity.TheVariants.{Valid, Invalid, NotFound}
use Rattle.origin_valid.proofs.CoverFacts.{covers-further, covers_from, covers_other_from, covers_to}
use Rattle.origin_valid.proofs.Members.{any-map, any-same, any_passed, passes_some, some_passes}
use Rattle.origin_valid.proofs.Outsides.{has-in_order, has-stretches, has_prefix, is_covered, outside-stretches, rise-in_order}

-- ---- what the stretches cover
abbrev pub is_over : List Prefix → Prefix → Bool
is_over ps q = list_any (λ p. covers p q) ps

further_case : (last : Option Prefix) (p q : Prefix) (b : Bool) → covers p q ≡ b → is_inside last p ≡ true → is_inside last q ≡ (is_inside last q || b)
further_case None p q b is h = absurd cc
further_case (Some last) p q true is h = rw (covers-further last p q h is) refl
further_case (Some last) p q false is h = or_none (covers last q) where
  or_none : (c : Bool) → c ≡ (c || false)
  or_none true = refl
  or_none false = refl

grouped : (a b c : Bool) → ((a || b) || c) ≡ (a || (b || c))
grouped true b c = refl
grouped false b c = refl

over_case : (last : Option Prefix) (p q : Prefix) (ps : List Prefix) (b : Bool) → is_inside last p ≡ b
    → (is_inside last q || is_over (outside last ps) q) ≡ (is_inside last q || is_over ps q)
    → (covers p q || is_over (outside (Some p) ps) q) ≡ (covers p q || is_over ps q)
    → (is_inside last q || is_over (cond b (outside last ps) (p ∷ outside (Some p) ps)) q) ≡ (is_inside last q || (covers p q || is_over ps q))
over_case last p q ps true is passed kept =
    passed ∙ ap (λ b. b || is_over ps q) (further_case last p q (covers p q) refl is) ∙ grouped (is_inside last q) (covers p q) (is_over ps q)
over_case last p q ps false is passed kept = ap (λ b. is_inside last q || b) kept

over-outside : (last : Option Prefix) (ps : List Prefix) (q : Prefix) → (is_inside last q || is_over (outside last ps) q) ≡ (is_inside last q || is_over ps q)
over-outside last [] q = refl
over-outside last (p ∷ ps) q = over_case last p q ps (is_inside last p) refl (over-outside last ps q) (over-outside (Some p) ps q)

-- the stretches cover what the prefixes cover
pub over-stretches : (ps : List Prefix) (q : Prefix) → is_over (stretches ps) q ≡ is_over ps q
over-stretches ps q =
    ap (λ l. is_over l q) (sym (outside-stretches (in_order ps) ps (rise-in_order ps) (has-in_order ps)))
    ∙ over-outside None (in_order ps) q
    ∙ any-same prefix_cmp_total prefix_cmp_exact (λ p. covers p q) (in_order ps) ps (λ k _. has-in_order ps k)

-- ---- they are apart
contains_has : (ps : List Prefix) (q : Prefix) → Contains ps q → has_prefix ps q ≡ true
contains_has ps q there = passes_some (is_at (prefix_cmp q)) ps q there (is_at-refl q)

negated : (b : Bool) → not b ≡ true → b ≡ false
negated true h = absurd cc
negated false h = refl

apart_case : (ps : List Prefix) (s t : Prefix) (b : Bool) → is_at (prefix_cmp s) t ≡ b → has_prefix ps s ≡ true → is_covered ps t ≡ false → covers s t ≡ true → s ≡ t
apart_case ps s t true at there uncovered h = one_prefix s t at
apart_case ps s t false at there uncovered h =
    let covered : is_covered ps t ≡ true = any_passed prefix_cmp_total prefix_cmp_exact (λ p. covers_other p t) s ps there (covers_other_from s t h at) in absurd cc

-- none of them covers another one
pub stretches-apart : (ps : List Prefix) (s t : Prefix) → Contains (stretches ps) s → Contains (stretches ps) t → Covers s.bits s.len t.bits t.len → s ≡ t
stretches-apart ps s t first second h =
    let there : has_prefix ps s ≡ true = (and_parts (not (is_covered ps s)) (has_prefix ps s) (sym (has-stretches ps s) ∙ contains_has (stretches ps) s first)).1 in
    let uncovered : is_covered ps t ≡ false =
    negated (is_covered ps t) (and_parts (not (is_covered ps t)) (has_prefix ps t) (sym (has-stretches ps t) ∙ contains_has (stretches ps) t second)).0 in
    apart_case ps s t (is_at (prefix_cmp s) t) refl there uncovered (covers_from s t h)

-- a prefix lies in one of them at most
pub stretches-once : (ps : List Prefix) (s t q : Prefix) → Contains (stretches ps) s → Contains (stretches ps) t → Covers s.bits s.len q.bits q.len → Covers t.bits t.len q.bits q.len → s ≡ t
stretches-once ps s t q first second h k =
    elim (covers_of_one s t q h k) [
      | inl outer ↦ stretches-apart ps s t first second outer
      | inr inner ↦ sym (stretches-apart ps t s second first inner)
    ]

-- ---- they are what the payloads of a change cover
abbrev pub IsIn : Change → Prefix → Type 0
IsIn change q = (s : Prefix) × Contains (stretches (changed_prefixes change)) s × Covers s.bits s.len q.bits q.len

abbrev pub IsChanged : Change → Prefix → Type 0
IsChanged change q = (payload : Vrp) × (Contains change.withdrawn payload ⊎ Contains change.announced payload) × CoversRoute payload q

pub over_payloads : (set : List Vrp) (q : Prefix) → is_over (prefixes_of set) q ≡ list_any (covers_route q) set
over_payloads set q = any-map (λ (v : Vrp). v.prefix) (λ p. covers p q) set

pub over_change : (change : Change) (q : Prefix) → is_over (stretches (changed_prefixes change)) q ≡ list_any (covers_route q) (change.withdrawn ++ change.announced)
over_change change q = over-stretches (changed_prefixes change) q ∙ over_payloads (change.withdrawn ++ change.announced) q

joined : (change : Change) (payload : Vrp) → Contains change.withdrawn payload ⊎ Contains change.announced payload → Contains (change.withdrawn ++ change.announced) payload
joined change payload (inl h) = Contains-append_left change.withdrawn change.announced payload h
joined change payload (inr h) = Contains-append_right change.withdrawn change.announced payload h

is_in : (change : Change) (q : Prefix) → is_over (stretches (changed_prefixes change)) q ≡ true → IsIn change q
is_in change q h = let found = some_passes (λ s. covers s q) (stretches (changed_prefixes change)) h in (found.0, found.1, covers_to found.0 q found.2)

pub in-changed : (change : Change) (q : Prefix) → IsIn change q ↔ IsChanged change q
in-changed change q = (
  λ h.
      let over : is_over (stretches (changed_prefixes change)) q ≡ true = passes_some (λ s. covers s q) (stretches (changed_prefixes change)) h.0 h.1 (covers_from h.0 q h.2) in
      let found = some_passes (covers_route q) (change.withdrawn ++ change.announced) (sym (over_change change q) ∙ over) in
      (found.0, Contains-append_cases change.withdrawn change.announced found.0 found.1, covers_to found.0.prefix q found.2),
  λ h.
      let over : list_any (covers_route q) (change.withdrawn ++ change.announced) ≡ true =
      passes_some (covers_route q) (change.withdrawn ++ change.announced) h.0 (joined change h.0 h.1) (covers_from h.0.prefix q h.2) in
      is_in change q (over_change change q ∙ over),
)

-- ---- outside of them nothing changes
unchanged_case : (o w a : Bool) → w ≡ false → a ≡ false → o ≡ ((o && not w) || a)
unchanged_case true w a h k = rw h refl
unchanged_case false w a h k = rw k refl

absent_case : (set : List Vrp) (t : Vrp → Bool) (v : Vrp) (b : Bool) → has set v ≡ b → list_any t set ≡ false → t v ≡ true → b ≡ false
absent_case set t v true there none passes = let some : list_any t set ≡ true = any_passed payload_cmp_total payload_cmp_exact t v set there passes in absurd cc
absent_case set t v false there none passes = refl

-- payloads that cover a prefix of which no stretch covers it stay
stays : (old new : List Vrp) (change : Change) (q : Prefix) → IsApplied old change new → list_any (covers_route q) (change.withdrawn ++ change.announced) ≡ false
    → (v : Vrp) → covers_route q v ≡ true → has old v ≡ has new v
stays old new change q applied none v h =
    let parts : (list_any (covers_route q) change.withdrawn || list_any (covers_route q) change.announced) ≡ false = sym (list_any-append (covers_route q) change.withdrawn change.announced) ∙ none in
    let withdrawn : has change.withdrawn v ≡ false = absent_case change.withdrawn (covers_route q) v (has change.withdrawn v) refl (or_parts _ _ parts).0 h in
    let announced : has change.announced v ≡ false = absent_case change.announced (covers_route q) v (has change.announced v) refl (or_parts _ _ parts).1 h in
    unchanged_case (has old v) (has change.withdrawn v) (has change.announced v) withdrawn announced ∙ sym (applied v)

pub same_state : (old new : List Vrp) (change : Change) (q : Prefix) (origin : Option Asn) → IsApplied old change new → list_any (covers_route q) (change.withdrawn ++ change.announced) ≡ false
    → validity old q origin ≡ validity new q origin
same_state old new change q origin applied none =
    let covered : list_any (covers_route q) old ≡ list_any (covers_route q) new =
    any-same payload_cmp_total payload_cmp_exact (covers_route q) old new (stays old new change q applied none) in
    let matched : list_any (matches q origin) old ≡ list_any (matches q origin) new =
    any-same payload_cmp_total payload_cmp_exact (matches q origin) old new (λ v h. stays old new change q applied none v (and_parts (covers_route q v) _ h).0) in
    ap (λ b. cond b Valid (cond (list_any (covers_route q) old) Invalid NotFound)) matched
    ∙ ap (λ b. cond (list_any (matches q origin) new) Valid (cond b Invalid NotFound)) covered

differ_case : (old new : List Vrp) (change : Change) (q : Prefix) (origin : Option Asn) (b : Bool) → list_any (covers_route q) (change.withdrawn ++ change.announced) ≡ b → IsApplied old change new
    → validity old q origin ≢ validity new q origin → IsIn change q
differ_case old new change q origin true is applied differ = is_in change q (over_change change q ∙ is)
differ_case old new change q origin false is applied differ = absurd (differ (same_state old new change q origin applied is))

-- a prefix whose state changes lies in a stretch
pub changed-in : (old new : List Vrp) (change : Change) (q : Prefix) (origin : Option Asn) → IsApplied old change new → validity old q origin ≢ validity new q origin → IsIn change q
changed-in old new change q origin applied differ =
    differ_case old new change q origin (list_any (covers_route q) (change.withdrawn ++ change.announced)) refl applied differ
