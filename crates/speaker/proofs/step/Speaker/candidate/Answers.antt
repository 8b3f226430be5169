use Rattle.speaker.proofs.AskedRoutes.{offer_shown}
use Rattle.speaker.proofs.step.Speaker.candidate.Goals as goal

pub returns-clause-agrees : goal.returns-clause-agrees
returns-clause-agrees g c = λ config r a. offer_shown config r _ c.args.slot c.args.prefix _ c.offer.ensures a
