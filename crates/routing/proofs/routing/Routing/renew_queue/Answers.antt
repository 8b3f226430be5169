use Rattle.std.proofs.Common.{refl}
use Rattle.routing.specs.RoutingState.{with_waiting}
use Rattle.routing.specs.Sent.{linked}
use Rattle.routing.proofs.MarkedNexts.{marked_cleared}
use Rattle.routing.proofs.routing.Routing.renew_queue.Goals as goal

pub returns-then-is_none-clause-marked : goal.returns-then-is_none-clause-marked
returns-then-is_none-clause-marked g c =
    let inside = c.self.inside in
    let old = with_waiting inside.ribs inside.waiting inside.alike in
    let new = with_waiting inside.ribs c.clear.new.self inside.alike in
    let marked = rw (← c.self.view_is) at c.requires.marked in
    let next = rw (← c.self.view_is) at c.next_owed.ensures in
    marked_cleared c.args.conf.now (linked c.args.links.now.entries inside.ribs.sent) old new c.args.slot c.next_owed.result marked refl c.if-is_none.ensures next c.clear.ensures.none c.clear.ensures.others
