-- The numbers of the faults (our own).
use Rattle.std.specs.Prelude.{ℕ}
use Rattle.net_prefix.specs.declared.fault.PrefixFault.{PrefixFault}
use Rattle.net_prefix.specs.declared.fault.PrefixFault.TheVariants.{LenOver32, HostBits, Text, MaxRange, Cut}

-- the number by which operators know the fault
abbrev pub number_of : PrefixFault → ℕ
number_of LenOver32 = 1
number_of HostBits = 2
number_of Text = 3
number_of MaxRange = 4
number_of Cut = 9
