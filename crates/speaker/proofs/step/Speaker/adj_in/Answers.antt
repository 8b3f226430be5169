use Rattle.speaker.proofs.ShownRoutes.{routes_shown}
use Rattle.speaker.proofs.step.Speaker.adj_in.Goals as goal

pub returns-clause-agrees : goal.returns-clause-agrees
returns-clause-agrees g c = λ config r prefix a.
    routes_shown config r _ c.args.slot prefix _ (c.received_rows.ensures.found prefix) a
