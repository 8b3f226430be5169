use Rattle.speaker.proofs.ShownRoutes.{held_shown}
use Rattle.speaker.proofs.step.Speaker.held.Goals as goal

pub returns-clause-agrees : goal.returns-clause-agrees
returns-clause-agrees g c = λ config r prefix a. rw c.held_rows.ensures.all (held_shown config r c.args.self.now c.args.slot prefix a)
