use Rattle.std.proofs.Common.{◌≡◌, ◌++◌, length}
use Rattle.bgp_attr.specs.PathReading.{asns_in}
use Rattle.bgp_attr.proofs.path_reading.read_asns.Given as goal

abbrev pub invariant-loop-rest : goal.invariant-loop-rest
invariant-loop-rest g l = l.asns.items ++ asns_in l.rest ≡ asns_in l.octets

abbrev pub decreases-loop-rest : goal.decreases-loop-rest
decreases-loop-rest g l = length l.rest
