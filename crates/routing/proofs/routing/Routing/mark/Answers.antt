use Rattle.std.proofs.Common.{◌∙◌}
use Rattle.routing.specs.Marks.{mark_at}
use Rattle.routing.specs.RoutingState.{RoutingState}
use Rattle.routing.specs.Sent.{linked}
use Rattle.routing.proofs.Marking.{mark_listed}
use Rattle.routing.proofs.routing.Routing.mark.Goals as goal

pub returns-clause-here : goal.returns-clause-here
returns-clause-here g c =
    let inside = c.self.inside in
    let old : RoutingState = record { adj_in = inside.ribs.adj_in; book = inside.ribs.book; chosen = inside.ribs.chosen; sent = inside.ribs.sent; waiting = inside.waiting; alike = inside.alike } in
    let new : RoutingState = record old { waiting = c.set.new.self; alike = c.list-owed.new.alike } in
    let is = c.as_ref.ensures.value ∙ c.chosen_route-chosen.ensures in
    rw (← c.self.view_is) (mark_listed (mark_at c.args.conf.now (linked c.args.links.now.entries inside.ribs.sent) old c.args.slot c.args.prefix) new c.args.slot c.args.prefix c.list-owed.result
    (c.list-owed.ensures.owed inside.ribs.adj_in inside.ribs.book is) (c.list-owed.ensures.here inside.ribs.adj_in inside.ribs.book is) c.set.ensures.here)

pub returns-clause-others : goal.returns-clause-others
returns-clause-others g c = λ s p w off was. c.set.ensures.others s p w off (rw (← c.self.view_is) at was)
