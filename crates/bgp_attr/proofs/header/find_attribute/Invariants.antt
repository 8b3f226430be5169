use Rattle.std.proofs.Common.{◌≡◌, length}
use Rattle.bgp_attr.specs.ReceivedAttributes.{split_of, found_of}
use Rattle.bgp_attr.proofs.header.find_attribute.Given as goal

abbrev pub invariant-loop-attribute : goal.invariant-loop-attribute
invariant-loop-attribute l = found_of l.code (split_of l.rest).0 ≡ found_of l.code (split_of l.octets).0

abbrev pub decreases-loop-attribute : goal.decreases-loop-attribute
decreases-loop-attribute l = length l.rest
