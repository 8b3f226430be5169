use Rattle.speaker.proofs.Passing.{settled_agrees}
use Rattle.speaker.proofs.step.Speaker.settle.Goals as goal

pub returns-clause-agrees : goal.returns-clause-agrees
returns-clause-agrees g c =
    settled_agrees c.queue_updates.result c.args.self.now c.queue_updates.new.self (rw (← c.self.view_is) c.is_chosen.ensures.best) (rw (← c.self.view_is) c.is_chosen.ensures.rising) c.queue_updates.ensures.queues c.queue_updates.ensures.served
