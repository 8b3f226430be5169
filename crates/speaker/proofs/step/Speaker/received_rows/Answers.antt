use Rattle.routing.proofs.WaitingLists.{nothing_rises}
use Rattle.speaker.proofs.step.Speaker.received_rows.Goals as goal

pub returns-then-slot-eq-LOCAL_SLOT-clause-rising : goal.returns-then-slot-eq-LOCAL_SLOT-clause-rising
returns-then-slot-eq-LOCAL_SLOT-clause-rising g c = nothing_rises
