use Rattle.routing.proofs.LinkedPeers.{no_peers}
use Rattle.routing.proofs.routing.slots_end.Goals as goal

pub returns-in-None-clause-none : goal.returns-in-None-clause-none
returns-in-None-clause-none g c = λ s under low. no_peers c.args.links.now.entries s (λ some. let there = c.in-None.ensures.variant.1 some in (cc))
