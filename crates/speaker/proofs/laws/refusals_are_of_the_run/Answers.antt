use Rattle.speaker.proofs.Refusals.{refusal_same, take_refusal_same}
use Rattle.speaker.proofs.laws.refusals_are_of_the_run.Goals as goal

pub returns-clause-event : goal.returns-clause-event
returns-clause-event c = refusal_same

pub returns-clause-take : goal.returns-clause-take
returns-clause-take c = take_refusal_same
