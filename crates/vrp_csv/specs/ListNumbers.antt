-- The numbers of the faults of a payload list (our own).
use Rattle.std.specs.Prelude.{ℕ}
use Rattle.vrp_csv.specs.declared.fault.RowFault.{RowFault}
use Rattle.vrp_csv.specs.declared.fault.RowFault.TheVariants.{Header, Fields, Asn, Prefix, Max, Io, NoMemory, Csv}

-- the number by which operators know the fault
abbrev pub number_of : RowFault → ℕ
number_of Header = 10
number_of Fields = 11
number_of Asn = 12
number_of Prefix = 13
number_of Max = 14
number_of Io = 15
number_of NoMemory = 16
number_of Csv = 17
