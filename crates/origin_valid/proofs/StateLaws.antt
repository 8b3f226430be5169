-- The states of a route's origin, by the payloads that match it or cover it.
use Rattle.std.proofs.Common.{◌≡◌, ◌≢◌, ◌≤◌, ◌==◌, ◌&&◌, ◌↔◌, ℕ, Bool, true, false, cond, not, nat_le, List, Option, None, Some, refl, ap, arith}
use Rattle.std.proofs.lemmas.Bool.{and_parts, eq-eqb, eqb-true}
use Rattle.std.proofs.lemmas.Bool.Decides.{nat_tests}
use Rattle.std.specs.List.{Contains, list_any}
use Rattle.net_prefix.specs.declared.asn.Asn.{Asn}
use Rattle.net_prefix.specs.declared.payload.Vrp.{Vrp}
use Rattle.net_prefix.specs.declared.prefix.Prefix.{Prefix}
use Rattle.prefix_trie.specs.CoverWalks.{covers}
use Rattle.origin_valid.specs.Validity.{CoversRoute, Matches, covers_route, is_origin, matches, validity}
use Rattle.origin_valid.specs.declared.validity.Validity.TheVariants.{Valid, Invalid, NotFound}
use Rattle.origin_valid.proofs.CoverFacts.{covers_from, covers_to}
use Rattle.origin_valid.proofs.Members.{passes_some, some_passes}

le_to : (a b : ℕ) → nat_le a b ≡ true → a ≤ b
le_to a b h = grind (arith, nat_tests)

le_from : (a b : ℕ) → a ≤ b → nat_le a b ≡ true
le_from a b h = grind (arith, nat_tests)

not_zero : (a : ℕ) → not (a == 0) ≡ true → a ≢ 0
not_zero a h = grind (arith, nat_tests)

no_zero : (a : ℕ) → a ≢ 0 → not (a == 0) ≡ true
no_zero a h = grind (arith, nat_tests)

origin_to : (origin : Option Asn) (asn : Asn) → is_origin origin asn.0 ≡ true → (asn.0 ≢ 0) × (origin ≡ Some asn)
origin_to None asn h = absurd cc
origin_to (Some o) asn h =
    let parts = and_parts (not (asn.0 == 0)) (o.0 == asn.0) h in
    let number : o.0 ≡ asn.0 = eqb-true o.0 asn.0 parts.1 in
    let same : o ≡ asn = ap (λ (n : ℕ). let a : Asn = record { 0 = n } in a) number in
    (not_zero asn.0 parts.0, ap Some same)

origin_from : (origin : Option Asn) (asn : Asn) → asn.0 ≢ 0 → origin ≡ Some asn → is_origin origin asn.0 ≡ true
origin_from origin asn some is = rw (is, no_zero asn.0 some) (eq-eqb asn.0 asn.0 refl)

pub matches_to : (prefix : Prefix) (origin : Option Asn) (payload : Vrp) → matches prefix origin payload ≡ true → Matches payload prefix origin
matches_to prefix origin payload h =
    let cover = and_parts (covers payload.prefix prefix) (nat_le prefix.len payload.max_len && is_origin origin payload.asn.0) h in
    let rest = and_parts (nat_le prefix.len payload.max_len) (is_origin origin payload.asn.0) cover.1 in
    let from = origin_to origin payload.asn rest.1 in
    (covers_to payload.prefix prefix cover.0, le_to prefix.len payload.max_len rest.0, from.0, from.1)

pub matches_from : (prefix : Prefix) (origin : Option Asn) (payload : Vrp) → Matches payload prefix origin → matches prefix origin payload ≡ true
matches_from prefix origin payload h =
    rw (covers_from payload.prefix prefix h.0, le_from prefix.len payload.max_len h.1) (origin_from origin payload.asn h.2 h.3)

-- ---- what a state says of the tests
is_valid : (m c : Bool) → cond m Valid (cond c Invalid NotFound) ≡ Valid → m ≡ true
is_valid true c h = refl
is_valid false true h = absurd cc
is_valid false false h = absurd cc

is_invalid : (m c : Bool) → cond m Valid (cond c Invalid NotFound) ≡ Invalid → (m ≡ false) × (c ≡ true)
is_invalid true c h = absurd cc
is_invalid false true h = (refl, refl)
is_invalid false false h = absurd cc

is_not_found : (m c : Bool) → cond m Valid (cond c Invalid NotFound) ≡ NotFound → c ≡ false
is_not_found true c h = absurd cc
is_not_found false true h = absurd cc
is_not_found false false h = refl

none : (b : Bool) → (b ≡ true → ⊥) → b ≡ false
none true h = absurd (h refl)
none false h = refl

contrary : (b : Bool) → b ≡ true → b ≡ false → ⊥
contrary b h k = absurd cc

module _ (set : List Vrp) (prefix : Prefix) (origin : Option Asn) where
  abbrev IsMatched : Type 0
  IsMatched = (payload : Vrp) × Contains set payload × Matches payload prefix origin

  abbrev IsCovered : Type 0
  IsCovered = (payload : Vrp) × Contains set payload × CoversRoute payload prefix

  matched_to : list_any (matches prefix origin) set ≡ true → IsMatched
  matched_to h = let found = some_passes (matches prefix origin) set h in (found.0, found.1, matches_to prefix origin found.0 found.2)

  matched_from : IsMatched → list_any (matches prefix origin) set ≡ true
  matched_from h = passes_some (matches prefix origin) set h.0 h.1 (matches_from prefix origin h.0 h.2)

  covered_to : list_any (covers_route prefix) set ≡ true → IsCovered
  covered_to h = let found = some_passes (covers_route prefix) set h in (found.0, found.1, covers_to found.0.prefix prefix found.2)

  covered_from : IsCovered → list_any (covers_route prefix) set ≡ true
  covered_from h = passes_some (covers_route prefix) set h.0 h.1 (covers_from h.0.prefix prefix h.2)

  pub valid-iff : (validity set prefix origin ≡ Valid) ↔ IsMatched
  valid-iff = (λ h. matched_to (is_valid (list_any (matches prefix origin) set) (list_any (covers_route prefix) set) h), λ h. rw (matched_from h) refl)

  pub invalid-iff : (validity set prefix origin ≡ Invalid) ↔ (IsCovered × ((payload : Vrp) → Contains set payload → Matches payload prefix origin → ⊥))
  invalid-iff = (
    λ h.
        let tests = is_invalid (list_any (matches prefix origin) set) (list_any (covers_route prefix) set) h in
        (covered_to tests.1, λ payload there found. contrary (list_any (matches prefix origin) set) (matched_from (payload, there, found)) tests.0),
    λ h.
        let unmatched : list_any (matches prefix origin) set ≡ false =
        none (list_any (matches prefix origin) set) (λ found. let some = matched_to found in h.1 some.0 some.1 some.2) in
        rw (unmatched, covered_from h.0) refl,
  )

  pub not_found-iff : (validity set prefix origin ≡ NotFound) ↔ ((payload : Vrp) → Contains set payload → CoversRoute payload prefix → ⊥)
  not_found-iff = (
    λ h payload there found.
        contrary (list_any (covers_route prefix) set) (covered_from (payload, there, found)) (is_not_found (list_any (matches prefix origin) set) (list_any (covers_route prefix) set) h),
    λ h.
        let uncovered : list_any (covers_route prefix) set ≡ false = none (list_any (covers_route prefix) set) (λ found. let some = covered_to found in h some.0 some.1 some.2) in
        let unmatched : list_any (matches prefix origin) set ≡ false =
        none (list_any (matches prefix origin) set) (λ found. let some = matched_to found in h some.0 some.1 some.2.0) in
        rw (unmatched, uncovered) refl,
  )
