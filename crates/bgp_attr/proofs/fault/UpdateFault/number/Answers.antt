use Rattle.bgp_attr.proofs.fault.UpdateFault.number.Goals as goal

pub returns-in-NoMemory : goal.returns-in-NoMemory
returns-in-NoMemory c = rw c.in-NoMemory.is
