use Rattle.runs.specs.Agreement.{tables_after}
use Rattle.speaker.proofs.ShownRoutes.{best_shown}
use Rattle.speaker.proofs.step.Speaker.loc_rib.Goals as goal

pub returns-clause-agrees : goal.returns-clause-agrees
returns-clause-agrees g c = λ config r prefix best a.
    let here = rw (← c.self.view_is) at a in
    rw c.rows.ensures.all (best_shown (tables_after config r) _ prefix best here.loc_rib)
