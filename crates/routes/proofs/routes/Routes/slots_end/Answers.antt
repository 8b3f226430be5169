use Rattle.routing.proofs.LinkedPeers.{few_in, linked_none}
use Rattle.routes.proofs.FoundPeers.{linked_there}
use Rattle.routes.proofs.routes.Routes.slots_end.Goals as goal

pub slots_end-requires : goal.slots_end-requires
slots_end-requires g c = few_in c.self.inside.links.entries c.self.inside.routing.sent c.self.invariant.1.there

pub returns-clause-none : goal.returns-clause-none
returns-clause-none g c = rw (← c.self.view_is) (λ s over few. linked_none c.self.inside.links.entries c.self.inside.routing.sent s (c.slots_end.ensures.none s over few))

pub returns-clause-last : goal.returns-clause-last
returns-clause-last g c = rw (← c.self.view_is) (λ some. linked_there c.self.inside.links.entries c.self.inside.routing.sent _ (c.slots_end.ensures.last some))
