-- When an exception is refused (our own).
use Rattle.std.specs.Prelude.{◌≡◌, ℕ, Bool, true, false, Option, None, Some, Result, Ok, Err, IfErr, if◌then◌else◌, nat_le}
use Rattle.local_exceptions.specs.declared.fault.ExceptionFault.{ExceptionFault}
use Rattle.local_exceptions.specs.declared.fault.ExceptionFault.TheVariants.{Limit, UnknownException, NoMemory}

-- the fault of adding an exception, which is there or isn't, to so many: one that is there is taken
abbrev pub adding_fault : Bool → ℕ → Option ExceptionFault
adding_fault true count = None
adding_fault false count = if nat_le 4096 count then Some Limit else None

-- a call answers the fault, and else adds the exception or finds no memory for it
abbrev pub IsFault : Option ExceptionFault → Result (Unit {0}) ExceptionFault → Type 0
IsFault (Some fault) result = result ≡ Err fault
IsFault None result = IfErr result (λ fault. fault ≡ NoMemory)

-- the answer to taking an exception away, which is there or isn't
abbrev pub taking_fault : Bool → Result (Unit {0}) ExceptionFault
taking_fault true = Ok tt
taking_fault false = Err UnknownException
