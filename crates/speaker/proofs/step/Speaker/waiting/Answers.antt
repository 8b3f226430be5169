use Rattle.std.proofs.Common.{◌∙◌}
use Rattle.speaker.proofs.WaitingRuns.{waiting_agrees, waiting_settled}
use Rattle.speaker.proofs.step.Speaker.waiting.Goals as goal

pub returns-clause-agrees : goal.returns-clause-agrees
returns-clause-agrees g c = λ config r prefix a. rw c.waiting_rows.ensures.all (waiting_agrees config r c.args.self.now c.args.slot prefix a)

pub returns-clause-settled : goal.returns-clause-settled
returns-clause-settled g c = λ config r a room. c.waiting_rows.ensures.all ∙ waiting_settled config r c.args.self.now c.args.slot a room
