use Rattle.routing.proofs.routing.Routing.clear.Goals as goal

pub returns-clause-others : goal.returns-clause-others
returns-clause-others g c = λ s p w apart was. c.clear.ensures.others s p w apart (rw (← c.self.view_is) at was)
