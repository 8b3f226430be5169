use Rattle.std.proofs.Common.{◌≡◌, length}
use Rattle.payload_lists.specs.Fronts.{tells_format}
use Rattle.payload_lists.proofs.front.tells_format.Given as goal

abbrev pub invariant-loop-rest : goal.invariant-loop-rest
invariant-loop-rest l = tells_format l.rest ≡ tells_format l.fn.octets

abbrev pub decreases-loop-rest : goal.decreases-loop-rest
decreases-loop-rest l = length l.rest
