use Rattle.speaker.proofs.Passing.{queues_starved}
use Rattle.speaker.proofs.Standing.{starved_falls}
use Rattle.speaker.proofs.step.Speaker.starve.Goals as goal

pub returns-clause-queues : goal.returns-clause-queues
returns-clause-queues g c =
    queues_starved c.args.slot c.args.self.now c.input.new.self c.requires (c.input.ensures.moves c.requires.linked c.requires.is) (c.input.ensures.chosen c.requires.linked c.requires.is) (rw (← c.self.view_is) c.is_chosen.ensures.best) (rw (← c.self.view_is) c.is_chosen.ensures.rising)

pub returns-clause-stand : goal.returns-clause-stand
returns-clause-stand g c = starved_falls c.args.slot c.args.self.now c.input.new.self c.requires (c.input.ensures.moves c.requires.linked c.requires.is)
