use Rattle.std.proofs.Common.{◌≡◌, length}
use Rattle.std.specs.List.{list_any}
use Rattle.bgp_attr.specs.ReceivedAttributes.{split_of}
use Rattle.bgp_attr.specs.UnknownAttributes.{is_kept}
use Rattle.bgp_attr.proofs.reading.has_kept.Given as goal

abbrev pub invariant-loop-attribute : goal.invariant-loop-attribute
invariant-loop-attribute l = list_any (λ a. is_kept a) (split_of l.rest).0 ≡ list_any (λ a. is_kept a) (split_of l.octets).0

abbrev pub decreases-loop-attribute : goal.decreases-loop-attribute
decreases-loop-attribute l = length l.rest
