use Rattle.speaker.proofs.step.Speaker.withdrawal_after.Goals as goal

pub returns : goal.returns
returns g c = λ l served.
    let here = rw (← c.self.view_is) at served in
    rw (← c.self.view_is) (c.withdrawal_after.ensures.next here.peer l here.configured here.linked here.established)
