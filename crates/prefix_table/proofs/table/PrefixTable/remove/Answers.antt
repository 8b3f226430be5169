use Rattle.std.proofs.Common.{sym, ◌∙◌}
use Rattle.prefix_table.proofs.Placed.{absent_placed, absent_put, read_nowhere, read_there, removed_placed, removed_put}
use Rattle.prefix_table.proofs.table.PrefixTable.remove.Goals as goal

pub invariant_of-self : goal.invariant_of-self
invariant_of-self g c = removed_placed c.self.inside.places.entries c.remove.new.self.entries c.self.inside.values c.remove-in-Some.new.self c.self.invariant c.in-Some.ensures.rising c.args.prefix c.in-Some.place c.in-Some.ensures.puts c.in-Some.ensures.place c.remove-in-Some.ensures.updates

pub invariant_of-self-in-None : goal.invariant_of-self-in-None
invariant_of-self-in-None g c = absent_placed c.self.inside.places.entries c.remove.new.self.entries c.self.inside.values c.self.invariant c.in-None.ensures.rising c.args.prefix c.in-None.ensures.puts c.in-None.ensures.place

pub returns-in-Some : goal.returns-in-Some
returns-in-Some g c =
    let places = c.self.inside.places.entries in
    let values = c.self.inside.values in
    rw (← c.self.view_is) (record {
      value = sym c.remove-in-Some.ensures.value ∙ read_there places values c.self.invariant c.args.prefix c.in-Some.place c.in-Some.ensures.place;
      put = removed_put places c.remove.new.self.entries values c.remove-in-Some.new.self c.self.invariant c.in-Some.ensures.rising c.args.prefix c.in-Some.place c.in-Some.ensures.puts c.in-Some.ensures.place c.remove-in-Some.ensures.updates;
    })

pub returns-in-None : goal.returns-in-None
returns-in-None g c =
    let places = c.self.inside.places.entries in
    let values = c.self.inside.values in
    rw (← c.self.view_is) (record {
      value = read_nowhere places values c.self.invariant c.args.prefix c.in-None.ensures.place;
      put = absent_put places c.remove.new.self.entries values c.self.invariant c.in-None.ensures.rising c.args.prefix c.in-None.ensures.puts c.in-None.ensures.place;
    })
