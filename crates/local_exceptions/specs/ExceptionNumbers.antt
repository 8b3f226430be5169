-- The numbers of refused exceptions.
use Rattle.std.specs.Prelude.{ℕ}
use Rattle.local_exceptions.specs.declared.fault.ExceptionFault.{ExceptionFault}
use Rattle.local_exceptions.specs.declared.fault.ExceptionFault.TheVariants.{Limit, Range, UnknownException, NoMemory}

-- the number that operators see
abbrev pub number_of : ExceptionFault → ℕ
number_of Limit = 31
number_of Range = 33
number_of UnknownException = 34
number_of NoMemory = 44
