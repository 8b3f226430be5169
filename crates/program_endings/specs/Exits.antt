-- How a program ends: what the operator has to mend is told from what the system didn't give.
use Rattle.std.specs.Prelude.{ℕ}
use Rattle.program_endings.specs.declared.fault.ExitFault.{ExitFault}
use Rattle.program_endings.specs.declared.fault.ExitFault.TheVariants.{Arguments, Settings, BadLine, RefusedLine, Device}

-- the exit status
abbrev pub status_of : ExitFault → ℕ
status_of Arguments = 1
status_of Settings = 1
status_of (BadLine line) = 1
status_of (RefusedLine line number) = 1
status_of Device = 2
