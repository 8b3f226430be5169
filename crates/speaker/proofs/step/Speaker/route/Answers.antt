use Rattle.speaker.proofs.ShownRoutes.{routes_shown}
use Rattle.speaker.proofs.step.Speaker.route.Goals as goal

pub returns-clause-agrees : goal.returns-clause-agrees
returns-clause-agrees g c = λ config r a. routes_shown config r _ c.args.slot c.args.prefix _ c.peer_route.ensures a
