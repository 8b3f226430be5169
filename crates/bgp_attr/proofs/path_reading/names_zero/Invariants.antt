use Rattle.std.proofs.Common.{◌≡◌, length}
use Rattle.bgp_attr.specs.PathReading.{asns_in, has_zero}
use Rattle.bgp_attr.proofs.path_reading.names_zero.Given as goal

abbrev pub invariant-loop-rest : goal.invariant-loop-rest
invariant-loop-rest l = has_zero (asns_in l.rest) ≡ has_zero (asns_in l.octets)

abbrev pub decreases-loop-rest : goal.decreases-loop-rest
decreases-loop-rest l = length l.rest
