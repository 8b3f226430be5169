use Rattle.routing.proofs.Stretching.{none_past, outside}
use Rattle.routing.proofs.candidates.next_behind.Goals as goal

pub returns-else-covers : goal.returns-else-covers
returns-else-covers g c = none_past _ c.args.stretch c.args.after c.in-Some.prefix c.requires c.in-Some.ensures.above (outside c.args.stretch c.in-Some.prefix c.if-covers.ensures.1) c.in-Some.ensures.least
