-- What a list has to keep to, to be served in the place of another one (own). A set is the list of its payloads, the least
-- first.
use Rattle.std.specs.Prelude.{◌≤◌, ◌*◌, ℕ, List, length, Option, Some, None, IfSome, if◌then◌else◌, nat_lt}
use Rattle.net_prefix.specs.declared.payload.Vrp.{Vrp}
use Rattle.vrp_delta.specs.Delta.{lacked}
use Rattle.list_guards.specs.declared.Guards.{Guards}
use Rattle.list_guards.specs.declared.GuardFault.{GuardFault}
use Rattle.list_guards.specs.declared.GuardFault.TheVariants.{TooFew, TooMany, TooManyGo}

-- how many payloads of the served set aren't in the next one
abbrev pub leaving : List Vrp → List Vrp → ℕ
leaving served next = length (lacked served next)

-- the next set has fewer payloads than are wanted
abbrev pub few_fault : Option ℕ → ℕ → Option GuardFault
few_fault None payloads = None
few_fault (Some wanted) payloads = if nat_lt payloads wanted then Some (TooFew payloads wanted) else None

-- the next set has more payloads than may be
abbrev pub many_fault : Option ℕ → ℕ → Option GuardFault
many_fault None payloads = None
many_fault (Some most) payloads = if nat_lt most payloads then Some (TooMany payloads most) else None

-- of so many served payloads more go than so many per cent, in a set that has so many
abbrev pub shrink_fault : Option ℕ → ℕ → ℕ → ℕ → Option GuardFault
shrink_fault None going served payloads = None
shrink_fault (Some most) going served payloads = if nat_lt (most * served) (going * 100) then Some (TooManyGo payloads going served most) else None

-- how many payloads the set has that a fault is of
abbrev pub payloads_of : GuardFault → ℕ
payloads_of (TooFew payloads wanted) = payloads
payloads_of (TooMany payloads most) = payloads
payloads_of (TooManyGo payloads going served most) = payloads

-- the first of two faults
abbrev pub first_of : Option GuardFault → Option GuardFault → Option GuardFault
first_of None second = second
first_of (Some why) second = Some why

-- why the next set isn't served in the place of this one
abbrev pub guard_fault : Guards → List Vrp → List Vrp → Option GuardFault
guard_fault guards served next =
    first_of (few_fault guards.min_payloads (length next))
    (first_of (many_fault guards.max_payloads (length next))
    (shrink_fault guards.max_shrink (leaving served next) (length served) (length next)))

-- the next set has as many payloads as are wanted
abbrev pub HasEnough : Guards → List Vrp → Type 0
HasEnough guards next = IfSome guards.min_payloads (λ wanted. wanted ≤ length next)

-- and no more than may be
abbrev pub HasRoom : Guards → List Vrp → Type 0
HasRoom guards next = IfSome guards.max_payloads (λ most. length next ≤ most)

-- no more of the served payloads go than so many per cent of them
abbrev pub LosesFew : Guards → List Vrp → List Vrp → Type 0
LosesFew guards served next = IfSome guards.max_shrink (λ most. leaving served next * 100 ≤ most * length served)
