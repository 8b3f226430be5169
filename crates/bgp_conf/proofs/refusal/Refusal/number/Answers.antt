use Rattle.bgp_conf.proofs.refusal.Refusal.number.Goals as goal

pub returns-in-BadSlot : goal.returns-in-BadSlot
returns-in-BadSlot c = rw c.in-BadSlot.is
