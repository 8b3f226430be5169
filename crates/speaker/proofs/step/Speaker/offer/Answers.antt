use Rattle.speaker.proofs.step.Speaker.offer.Goals as goal

pub returns : goal.returns
returns g c = rw (← c.self.view_is) c.candidate.ensures
