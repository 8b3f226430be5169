use Rattle.bgp_msg.proofs.fault.OpenFault.subcode.Goals as goal

pub returns-in-UnacceptableHoldTime : goal.returns-in-UnacceptableHoldTime
returns-in-UnacceptableHoldTime c = rw c.in-UnacceptableHoldTime.is
