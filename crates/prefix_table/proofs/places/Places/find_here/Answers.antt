use Rattle.std.proofs.Common.{sym}
use Rattle.prefix_table.proofs.Remembered.{keeps_remembered, remembered_found}
use Rattle.prefix_table.proofs.places.Places.find_here.Goals as goal

pub invariant_of-self : goal.invariant_of-self
invariant_of-self g c = keeps_remembered c.self.inside.tree.entries c.self.inside.recent c.keep.new.self c.args.prefix c.in_ok-place.field-0.now c.self.invariant c.in_ok-place.ensures.value c.keep.ensures.spots

pub returns-in-Some-clause-place : goal.returns-in-Some-clause-place
returns-in-Some-clause-place g c = rw (← c.self.view_is) (sym (remembered_found c.self.inside.tree.entries c.self.inside.recent c.args.prefix c.in-Some.place c.self.invariant (sym c.in-Some.ensures)))
