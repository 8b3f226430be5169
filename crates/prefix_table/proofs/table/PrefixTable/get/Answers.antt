use Rattle.std.proofs.Common.{◌∙◌}
use Rattle.prefix_table.proofs.Placed.{read_nowhere, read_there}
use Rattle.prefix_table.proofs.table.PrefixTable.get.Goals as goal

pub returns-in-Some : goal.returns-in-Some
returns-in-Some g c = rw (← c.self.view_is) (record { value = c.get.ensures ∙ read_there c.self.inside.places.entries c.self.inside.values c.self.invariant c.args.prefix c.in-Some.place c.in-Some.ensures })

pub returns-in-None : goal.returns-in-None
returns-in-None g c = rw (← c.self.view_is) (record { value = read_nowhere c.self.inside.places.entries c.self.inside.values c.self.invariant c.args.prefix c.in-None.ensures })
