use Rattle.std.proofs.Common.{◌∙◌, ap}
use Rattle.prefix_table.proofs.Placed.{placed_after}
use Rattle.prefix_table.specs.Placed.{placed}
use Rattle.prefix_table.proofs.table.PrefixTable.range_after.Goals as goal

pub returns : goal.returns
returns g c = rw (← c.self.view_is) (ap (λ places. placed places c.self.inside.values) c.after.ensures ∙ placed_after c.args.after c.self.inside.places.entries c.self.inside.values)
