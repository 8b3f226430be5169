use Rattle.bgp_attr.proofs.UnknownLists.{none_passed_on}
use Rattle.bgp_attr.proofs.unknown.UnknownAttributes.new.Goals as goal

pub invariant_of-result : goal.invariant_of-result
invariant_of-result g c = none_passed_on
