use Rattle.std.proofs.Common.{refl, ◌∙◌}
use Rattle.prefix_table.proofs.Placed.{lent_placed, lent_put, on_some, read_nowhere, read_there}
use Rattle.prefix_table.proofs.table.PrefixTable.get_mut.Goals as goal

pub invariant_of-self-lent : goal.invariant_of-self-lent
invariant_of-self-lent g c = λ _.
    rw c.in-Some.ensures.same (
      λ w. lent_placed c.self.inside.places.entries c.self.inside.values c.self.invariant c.args.prefix c.in-Some.place c.in-Some.ensures.place w,
      c.self.invariant,
    )

pub returns-in-Some : goal.returns-in-Some
returns-in-Some g c =
    let places = c.self.inside.places.entries in
    let values = c.self.inside.values in
    rw (← c.self.view_is, c.in-Some.ensures.same) (
      (refl, λ w. on_some _ c.get_mut.result (lent_put places values c.self.invariant c.args.prefix c.in-Some.place c.in-Some.ensures.place w), refl),
      record { writes_back = tt; value = c.get_mut.ensures.value ∙ read_there places values c.self.invariant c.args.prefix c.in-Some.place c.in-Some.ensures.place },
    )

pub returns-in-None : goal.returns-in-None
returns-in-None g c =
    rw (← c.self.view_is, c.in-None.ensures.same) (
      (refl, λ w. tt, refl),
      record { writes_back = tt; value = read_nowhere c.self.inside.places.entries c.self.inside.values c.self.invariant c.args.prefix c.in-None.ensures.place },
    )
