use Rattle.std.proofs.Common.{None}
use Rattle.prefix_table.proofs.Remembered.{forgets_remembered}
use Rattle.prefix_table.proofs.places.Places.remove.Goals as goal

pub invariant_of-self : goal.invariant_of-self
invariant_of-self g c = forgets_remembered c.self.inside.tree.entries c.remove.new.self.entries c.self.inside.recent c.forget.new.self c.args.prefix None c.remove.ensures.updates.0 c.self.invariant c.forget.ensures.spots

pub returns-clause-puts : goal.returns-clause-puts
returns-clause-puts g c = rw (← c.self.view_is) c.remove.ensures.updates.0
