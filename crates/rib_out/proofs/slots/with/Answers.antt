use Rattle.rib_out.proofs.SlotBits.{has_slot-with}
use Rattle.rib_out.proofs.slots.with.Goals as goal

pub returns : goal.returns
returns c = λ s. rw c.only.ensures (has_slot-with c.args.slots c.args.slot s)
