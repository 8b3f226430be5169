use Rattle.std.proofs.Common.{rules, ◌∙◌}
use Rattle.prefix_table.proofs.Picked.{whole}
use Rattle.prefix_table.proofs.places.Places.after.Goals as goal

pub returns-in-None : goal.returns-in-None
returns-in-None g c = rw (c.in-None.is, ← c.self.view_is) (c.range-in-None.ensures.between (search rules) ∙ whole c.self.inside.tree.entries)
