use Rattle.prefix_table.proofs.Placed.{came_placed, came_put, roomy_placed}
use Rattle.prefix_table.proofs.table.PrefixTable.insert.Goals as goal

pub invariant_of-self : goal.invariant_of-self
invariant_of-self g c = roomy_placed c.self.inside.places.entries c.self.inside.values c.reserve.new.self c.reserve.new.self.capacity c.reserve.ensures.rest_kept c.self.invariant

pub invariant_of-self-in_err-place : goal.invariant_of-self-in_err-place
invariant_of-self-in_err-place g c = roomy_placed c.self.inside.places.entries c.self.inside.values c.reserve.new.self c.reserve.new.self.capacity c.reserve.ensures.rest_kept c.self.invariant

pub invariant_of-self-in_err-insert : goal.invariant_of-self-in_err-insert
invariant_of-self-in_err-insert g c = rw c.in_err-insert.ensures.err (roomy_placed c.self.inside.places.entries c.self.inside.values c.reserve.new.self c.reserve.new.self.capacity c.reserve.ensures.rest_kept c.self.invariant)

pub invariant_of-self-2 : goal.invariant_of-self-2
invariant_of-self-2 g c =
    came_placed c.self.inside.places.entries c.insert.new.self.entries c.self.inside.values c.reserve.new.self c.insert_reserved.new.self c.reserve.new.self.capacity c.reserve.ensures.rest_kept
    c.self.invariant c.in_ok-insert.ensures.rising c.args.prefix c.in_ok-place.place c.insert_reserved.result c.args.value c.in_ok-insert.ensures.puts
    c.in_ok-place.ensures.place c.insert_reserved.ensures.key c.in_ok-place.ensures.vacant c.insert_reserved.ensures.updates
    (rw (← c.self.view_is) at c.requires)

pub returns-clause-put : goal.returns-clause-put
returns-clause-put g c =
    rw (← c.self.view_is)
    (came_put c.self.inside.places.entries c.insert.new.self.entries c.self.inside.values c.reserve.new.self c.insert_reserved.new.self c.reserve.new.self.capacity c.reserve.ensures.rest_kept
    c.self.invariant c.in_ok-insert.ensures.rising c.args.prefix c.in_ok-place.place c.insert_reserved.result c.args.value c.in_ok-insert.ensures.puts
    c.in_ok-place.ensures.place c.insert_reserved.ensures.key c.in_ok-place.ensures.vacant c.insert_reserved.ensures.updates)
