use Rattle.std.proofs.Common.{◌≡◌, ◌+◌, length}
use Rattle.bgp_attr.specs.UnknownAttributes.{place_of}
use Rattle.bgp_attr.proofs.unknown.place_of.Given as goal

abbrev pub invariant-loop-rest : goal.invariant-loop-rest
invariant-loop-rest g l = (l.place + place_of l.code l.rest ≡ place_of l.fn.code l.fn.attributes) × (l.place + length l.rest ≡ length l.fn.attributes)

abbrev pub decreases-loop-rest : goal.decreases-loop-rest
decreases-loop-rest g l = length l.rest
