use Rattle.std.proofs.Common.{sym, ◌∙◌}
use Rattle.routing.specs.RoutingState.{with_waiting}
use Rattle.routing.specs.Sent.{linked}
use Rattle.routing.proofs.MarkedNexts.{next_queued}
use Rattle.routing.proofs.routing.Routing.next.Goals as goal

pub returns-then-is_whole : goal.returns-then-is_whole
returns-then-is_whole g c =
    let inside = c.self.inside in
    let marked = rw (← c.self.view_is) at c.requires.marked in
    rw (← c.self.view_is)
    (next_queued c.args.conf.now (linked c.args.links.now.entries inside.ribs.sent) (with_waiting inside.ribs inside.waiting inside.alike) c.args.slot c.args.owed c.args.after c.next.result marked c.requires.slot (sym c.is_whole.ensures ∙ c.if-is_whole.true) c.next.ensures.has
    c.next.ensures.above c.next.ensures.least c.next.ensures.none)
