use Rattle.std.proofs.Common.{◌≡◌, length}
use Rattle.rtr_cache.specs.HandedOut.{handing}
use Rattle.rtr_cache.proofs.handed_out.HandedOut.read.Given as goal

abbrev pub invariant-loop-rest : goal.invariant-loop-rest
invariant-loop-rest l = handing l.octets l.fn.self ≡ handing l.rest l.self

abbrev pub decreases-loop-rest : goal.decreases-loop-rest
decreases-loop-rest l = length l.rest
