use Rattle.speaker.proofs.step.Speaker.waiting_rows.Goals as goal

pub returns-clause-all : goal.returns-clause-all
returns-clause-all g c = rw (← c.self.view_is) c.waiting.ensures.all
