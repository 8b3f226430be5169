use Rattle.std.proofs.Common.{sym}
use Rattle.prefix_table.proofs.Remembered.{remembered_found}
use Rattle.prefix_table.proofs.places.Places.find.Goals as goal

pub returns-in-Some : goal.returns-in-Some
returns-in-Some g c = rw (← c.self.view_is) (sym (remembered_found c.self.inside.tree.entries c.self.inside.recent c.args.prefix c.in-Some.place c.self.invariant (sym c.in-Some.ensures)))
