use Rattle.std.proofs.Common.{◌≡◌, ◌++◌, ◌+◌, ◌*◌, take, length}
use Rattle.bgp_attr.specs.PathReading.{asns_in}
use Rattle.bgp_attr.proofs.path_reading.few_asns.Given as goal

abbrev pub invariant-loop-rest : goal.invariant-loop-rest
invariant-loop-rest l = (take l.count l.asns ++ asns_in l.rest ≡ asns_in l.octets) × (4 * l.count + length l.rest ≡ length l.octets)

abbrev pub decreases-loop-rest : goal.decreases-loop-rest
decreases-loop-rest l = length l.rest
