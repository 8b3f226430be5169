use Rattle.speaker.proofs.step.Speaker.waiting_after.Goals as goal

pub returns-clause-kept : goal.returns-clause-kept
returns-clause-kept g c = rw (← c.self.view_is) c.waiting_after.ensures.all
