use Rattle.bgp_attr.proofs.fault.UpdateFault.subcode.Goals as goal

pub returns-in-InvalidNextHop : goal.returns-in-InvalidNextHop
returns-in-InvalidNextHop c = rw c.in-InvalidNextHop.is
