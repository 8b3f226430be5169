use Rattle.std.proofs.Common.{◌≡◌, length}
use Rattle.bgp_attr.specs.ReceivedAttributes.{split_of}
use Rattle.bgp_attr.specs.UnknownAttributes.{kept_behind, unknown_in}
use Rattle.bgp_attr.proofs.reading.read_unknown.Given as goal

abbrev pub invariant-loop-attribute : goal.invariant-loop-attribute
invariant-loop-attribute g l = kept_behind l.unknown (split_of l.rest).0 ≡ unknown_in (split_of l.octets).0

abbrev pub decreases-loop-attribute : goal.decreases-loop-attribute
decreases-loop-attribute g l = length l.rest
