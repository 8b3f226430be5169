-- Which sets pass, by their counts.
use Rattle.std.proofs.Common.{◌≡◌, ◌≤◌, ◌*◌, ℕ, Bool, true, false, if◌then◌else◌, nat_lt, List, length, Option, None, Some, IfSome, refl, subst}
use Rattle.std.specs.Bool.{⊤}
use Rattle.std.proofs.lemmas.Bool.{le-ltb, ltb-false}
use Rattle.net_prefix.specs.declared.payload.Vrp.{Vrp}
use Rattle.list_guards.specs.Guarding.{HasEnough, HasRoom, LosesFew, few_fault, first_of, guard_fault, leaving, many_fault, payloads_of, shrink_fault}
use Rattle.list_guards.specs.declared.GuardFault.{GuardFault}
use Rattle.list_guards.specs.declared.GuardFault.TheVariants.{TooFew, TooMany, TooManyGo}
use Rattle.list_guards.specs.declared.Guards.{Guards}

no_fault : (test : Bool) (fault : GuardFault) → (if test then Some fault else None) ≡ None → test ≡ false
no_fault true fault none = absurd cc
no_fault false fault none = refl

no_two : (first second : Option GuardFault) → first_of first second ≡ None → (first ≡ None) × (second ≡ None)
no_two None second none = (refl, none)
no_two (Some why) second none = absurd cc

few_passes : (wanted : Option ℕ) (payloads : ℕ) → few_fault wanted payloads ≡ None → IfSome wanted (λ least. least ≤ payloads)
few_passes None payloads none = tt
few_passes (Some least) payloads none = ltb-false payloads least (no_fault (nat_lt payloads least) (TooFew payloads least) none)

enough_passes : (wanted : Option ℕ) (payloads : ℕ) → IfSome wanted (λ least. least ≤ payloads) → few_fault wanted payloads ≡ None
enough_passes None payloads is = refl
enough_passes (Some least) payloads is = rw (le-ltb payloads least is) refl

room_passes : (most : Option ℕ) (payloads : ℕ) → many_fault most payloads ≡ None → IfSome most (λ may_be. payloads ≤ may_be)
room_passes None payloads none = tt
room_passes (Some may_be) payloads none = ltb-false may_be payloads (no_fault (nat_lt may_be payloads) (TooMany payloads may_be) none)

no_more_passes : (most : Option ℕ) (payloads : ℕ) → IfSome most (λ may_be. payloads ≤ may_be) → many_fault most payloads ≡ None
no_more_passes None payloads is = refl
no_more_passes (Some may_be) payloads is = rw (le-ltb may_be payloads is) refl

share_passes : (share : Option ℕ) (going served payloads : ℕ) → shrink_fault share going served payloads ≡ None → IfSome share (λ most. going * 100 ≤ most * served)
share_passes None going served payloads none = tt
share_passes (Some most) going served payloads none = ltb-false (most * served) (going * 100) (no_fault (nat_lt (most * served) (going * 100)) (TooManyGo payloads going served most) none)

few_go : (share : Option ℕ) (going served payloads : ℕ) → IfSome share (λ most. going * 100 ≤ most * served) → shrink_fault share going served payloads ≡ None
few_go None going served payloads is = refl
few_go (Some most) going served payloads is = rw (le-ltb (most * served) (going * 100) is) refl

-- what the guards say of a set's count of payloads, and of those that go
abbrev many : Guards → List Vrp → Option GuardFault
many guards next = many_fault guards.max_payloads (length next)

abbrev share : Guards → List Vrp → List Vrp → Option GuardFault
share guards served next = shrink_fault guards.max_shrink (leaving served next) (length served) (length next)

pub passes : (guards : Guards) (served next : List Vrp) → guard_fault guards served next ≡ None → HasEnough guards next × HasRoom guards next × LosesFew guards served next
passes guards served next none =
    let few = no_two (few_fault guards.min_payloads (length next)) (first_of (many guards next) (share guards served next)) none in
    let others = no_two (many guards next) (share guards served next) few.1 in
    (few_passes guards.min_payloads (length next) few.0, room_passes guards.max_payloads (length next) others.0, share_passes guards.max_shrink (leaving served next) (length served) (length next) others.1)

pub passes_by : (guards : Guards) (served next : List Vrp) → HasEnough guards next × HasRoom guards next × LosesFew guards served next → guard_fault guards served next ≡ None
passes_by guards served next is =
    rw (enough_passes guards.min_payloads (length next) is.0)
    (rw (no_more_passes guards.max_payloads (length next) is.1)
    (few_go guards.max_shrink (leaving served next) (length served) (length next) is.2))

-- a fault, if there is one, tells this count
abbrev Tells : ℕ → Option GuardFault → Type 0
Tells count None = ⊤
Tells count (Some why) = payloads_of why ≡ count

by_test : (test : Bool) (count : ℕ) (why : GuardFault) → payloads_of why ≡ count → Tells count (if test then Some why else None)
by_test true count why is = is
by_test false count why is = tt

few_tells : (wanted : Option ℕ) (payloads : ℕ) → Tells payloads (few_fault wanted payloads)
few_tells None payloads = tt
few_tells (Some least) payloads = by_test (nat_lt payloads least) payloads (TooFew payloads least) refl

many_tells : (most : Option ℕ) (payloads : ℕ) → Tells payloads (many_fault most payloads)
many_tells None payloads = tt
many_tells (Some may_be) payloads = by_test (nat_lt may_be payloads) payloads (TooMany payloads may_be) refl

share_tells : (share : Option ℕ) (going served payloads : ℕ) → Tells payloads (shrink_fault share going served payloads)
share_tells None going served payloads = tt
share_tells (Some most) going served payloads = by_test (nat_lt (most * served) (going * 100)) payloads (TooManyGo payloads going served most) refl

first_tells : (count : ℕ) (first second : Option GuardFault) → Tells count first → Tells count second → Tells count (first_of first second)
first_tells count None second none is = is
first_tells count (Some why) second is other = is

pub guard_tells : (guards : Guards) (served next : List Vrp) (why : GuardFault) → guard_fault guards served next ≡ Some why → payloads_of why ≡ length next
guard_tells guards served next why is =
    subst (λ (fault : Option GuardFault). Tells (length next) fault) is
    (first_tells (length next) (few_fault guards.min_payloads (length next)) (first_of (many guards next) (share guards served next)) (few_tells guards.min_payloads (length next))
    (first_tells (length next) (many guards next) (share guards served next) (many_tells guards.max_payloads (length next)) (share_tells guards.max_shrink (leaving served next) (length served) (length next))))
