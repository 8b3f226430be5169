-- The numbers by which operators know refusals (own).
use Rattle.std.specs.Prelude.{ℕ}
use Rattle.policy.specs.declared.refusal.PolicyRefusal.{PolicyRefusal}
use Rattle.policy.specs.declared.refusal.PolicyRefusal.TheVariants.{UnknownName as UnknownPolicy, TooMany as TooManyPolicies, InUse as PolicyInUse, Range as OutOfRange, NoMemory as NoMemoryLeft}
use Rattle.bgp_conf.specs.declared.refusal.Refusal.{Refusal}
use Rattle.bgp_conf.specs.declared.refusal.Refusal.TheVariants.{UnknownName, TooMany, InUse, Range, UnknownException, BadSlot, ClockBack, NotExpected, SlotTaken, NoMemory, AddressTaken}

-- the numbers by which operators know the refusals
abbrev pub number_of : Refusal → ℕ
number_of UnknownName = 30
number_of TooMany = 31
number_of InUse = 32
number_of Range = 33
number_of UnknownException = 34
number_of BadSlot = 40
number_of ClockBack = 41
number_of NotExpected = 42
number_of SlotTaken = 43
number_of NoMemory = 44
number_of AddressTaken = 45

-- what a refusal of the policies is as one of a command
abbrev pub refusal_of : PolicyRefusal → Refusal
refusal_of UnknownPolicy = UnknownName
refusal_of TooManyPolicies = TooMany
refusal_of PolicyInUse = InUse
refusal_of OutOfRange = Range
refusal_of NoMemoryLeft = NoMemory
