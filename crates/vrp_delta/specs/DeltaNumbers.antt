-- The numbers by which operators know the faults of a delta (own).
use Rattle.std.specs.Prelude.{ℕ}
use Rattle.vrp_delta.specs.declared.fault.DeltaFault.{DeltaFault}
use Rattle.vrp_delta.specs.declared.fault.DeltaFault.TheVariants.{NoMemory, Unknown, Duplicate}

-- the numbers by which operators know the faults
abbrev pub number_of : DeltaFault → ℕ
number_of NoMemory = 5
number_of Unknown = 6
number_of Duplicate = 7
