use Rattle.std.proofs.Common.{Some}
use Rattle.prefix_table.proofs.Remembered.{forgets_remembered, keeps_remembered, own_place}
use Rattle.prefix_table.proofs.places.Places.insert.Goals as goal

pub invariant_of-self : goal.invariant_of-self
invariant_of-self g c =
    let puts = c.in-Ok.ensures.updates.0 in
    keeps_remembered c.insert.new.self.entries c.forget.new.self c.keep.new.self c.args.prefix c.args.place
    (forgets_remembered c.self.inside.tree.entries c.insert.new.self.entries c.self.inside.recent c.forget.new.self c.args.prefix (Some c.args.place) puts c.self.invariant c.forget.ensures.spots)
    (own_place c.self.inside.tree.entries c.insert.new.self.entries c.args.prefix c.args.place puts) c.keep.ensures.spots

pub invariant_of-self-in-Err : goal.invariant_of-self-in-Err
invariant_of-self-in-Err g c = rw c.in-Err.ensures.err c.self.invariant

pub returns-in-Ok-clause-puts : goal.returns-in-Ok-clause-puts
returns-in-Ok-clause-puts g c = rw (← c.self.view_is) c.in-Ok.ensures.updates.0
