use Rattle.std.proofs.Common.{◌≡◌, length, is_some}
use Rattle.bgp_attr.specs.PathReading.{path_at}
use Rattle.bgp_attr.proofs.path_reading.is_path.Given as goal

abbrev pub invariant-loop-rest : goal.invariant-loop-rest
invariant-loop-rest l = is_some (path_at l.rest) ≡ is_some (path_at l.octets)

abbrev pub decreases-loop-rest : goal.decreases-loop-rest
decreases-loop-rest l = length l.rest
