-- What guards look at.
use Rattle.std.proofs.Common.{◌≡◌, ℕ, true, List, length, Option, None, Some, is_some, refl, ap}
use Rattle.net_prefix.specs.declared.payload.Vrp.{Vrp}
use Rattle.list_guards.specs.Guarding.{few_fault, first_of, guard_fault, leaving, many_fault, shrink_fault}
use Rattle.list_guards.specs.declared.GuardFault.{GuardFault}
use Rattle.list_guards.specs.declared.Guards.{Guards}

by_share : (share : Option ℕ) (served other next : List Vrp) → (is_some share ≡ true → other ≡ served) → shrink_fault share (leaving other next) (length other) (length next) ≡ shrink_fault share (leaving served next) (length served) (length next)
by_share None served other next same = refl
by_share (Some most) served other next same = ap (λ (set : List Vrp). shrink_fault (Some most) (leaving set next) (length set) (length next)) (same refl)

-- where a share may go they look at what is served, and else it may be any set
pub judged_alike : (guards : Guards) (served other next : List Vrp) → (is_some guards.max_shrink ≡ true → other ≡ served) → guard_fault guards other next ≡ guard_fault guards served next
judged_alike guards served other next same =
    ap (λ (fault : Option GuardFault). first_of (few_fault guards.min_payloads (length next)) (first_of (many_fault guards.max_payloads (length next)) fault))
    (by_share guards.max_shrink served other next same)
