use Rattle.slab.specs.Slab.{get}
use Rattle.prefix_table.proofs.Picked.{picked_rising}
use Rattle.prefix_table.proofs.table.PrefixTable.rises.Goals as goal

pub returns : goal.returns
returns g c = rw (← c.self.view_is) (picked_rising (get c.self.inside.values) c.self.inside.places.entries c.self.invariant.rising)
