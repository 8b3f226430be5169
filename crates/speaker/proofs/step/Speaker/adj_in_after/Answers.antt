use Rattle.routing.proofs.WaitingLists.{nothing_rises}
use Rattle.speaker.proofs.ViewsBehind.{none_after}
use Rattle.speaker.proofs.step.Speaker.adj_in_after.Goals as goal

pub returns-then-slot-eq-LOCAL_SLOT-clause-rising : goal.returns-then-slot-eq-LOCAL_SLOT-clause-rising
returns-then-slot-eq-LOCAL_SLOT-clause-rising g c = nothing_rises

pub returns-then-slot-eq-LOCAL_SLOT-clause-kept : goal.returns-then-slot-eq-LOCAL_SLOT-clause-kept
returns-then-slot-eq-LOCAL_SLOT-clause-kept g c = rw c.if-slot-eq-LOCAL_SLOT.true (none_after c.args.after)
