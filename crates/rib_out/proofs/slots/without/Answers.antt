use Rattle.std.proofs.Common.{arith}
use Rattle.rib_out.proofs.SlotBits.{has_slot-without}
use Rattle.rib_out.proofs.slots.without.Goals as goal

pub returns : goal.returns
returns c = λ s. rw c.only.ensures (has_slot-without c.args.slots c.args.slot s (omega arith) c.requires)
