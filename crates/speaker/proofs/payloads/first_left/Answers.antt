use Rattle.speaker.proofs.ShownRoutes.{nothing_in_force}
use Rattle.speaker.proofs.payloads.first_left.Goals as goal

pub returns-in-None-clause-rising : goal.returns-in-None-clause-rising
returns-in-None-clause-rising g c = rw c.in-None.is nothing_in_force
