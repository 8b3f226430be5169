use Rattle.bgp_attr.proofs.FirstFaults.{fault_is_first}
use Rattle.bgp_attr.proofs.laws.fault_is_the_first.Goals as goal

pub returns : goal.returns
returns c = fault_is_first
