use Rattle.routes.proofs.routes.Routes.payloads_changed.Goals as goal

pub returns-clause-chosen : goal.returns-clause-chosen
returns-clause-chosen g c = rw (← c.self.view_is) c.choose_touched.ensures.chosen
