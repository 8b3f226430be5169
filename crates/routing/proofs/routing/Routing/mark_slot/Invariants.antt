use Rattle.routing.specs.Sent.{linked}
use Rattle.routing.proofs.Marking.{SlotUpTo}
use Rattle.routing.proofs.Places.{left_above}
use Rattle.routing.proofs.routing.Routing.mark_slot.Given as goal

abbrev pub invariant-loop-prefix : goal.invariant-loop-prefix
invariant-loop-prefix g l = SlotUpTo l.fn.conf (linked l.fn.links.entries l.fn.self.sent) l.fn.slot l.fn.self l.after l.self

abbrev pub decreases-loop-prefix : goal.decreases-loop-prefix
decreases-loop-prefix g l = left_above l.after
