use Rattle.std.proofs.Common.{Some, sym, ◌∙◌}
use Rattle.routing.specs.RoutingState.{with_waiting}
use Rattle.routing.specs.Sent.{linked}
use Rattle.routing.proofs.MarkedNexts.{least_listed, least_waiting, next_above, none_listed, none_waiting}
use Rattle.routing.proofs.routing.Routing.possible_after.Goals as goal

pub returns-then-is_whole-clause-least : goal.returns-then-is_whole-clause-least
returns-then-is_whole-clause-least g c =
    let inside = c.self.inside in
    let marked = rw (← c.self.view_is) at c.requires.marked in
    rw (← c.self.view_is)
    (least_listed c.args.conf.now (linked c.args.links.now.entries inside.ribs.sent) (with_waiting inside.ribs inside.waiting inside.alike) c.args.slot c.args.octets.now c.args.after marked c.requires.slot c.next.result (c.next.ensures.least (sym c.is_whole.ensures ∙ c.if-is_whole.true)))

pub returns-then-is_whole-clause-none : goal.returns-then-is_whole-clause-none
returns-then-is_whole-clause-none g c =
    let inside = c.self.inside in
    let marked = rw (← c.self.view_is) at c.requires.marked in
    rw (← c.self.view_is)
    (none_listed c.args.conf.now (linked c.args.links.now.entries inside.ribs.sent) (with_waiting inside.ribs inside.waiting inside.alike) c.args.slot c.args.octets.now c.args.after marked c.requires.slot c.next.result (c.next.ensures.none (sym c.is_whole.ensures ∙ c.if-is_whole.true)))

pub returns-else-is_whole-clause-above : goal.returns-else-is_whole-clause-above
returns-else-is_whole-clause-above g c =
    next_above c.args.conf.now (linked c.args.links.now.entries c.args.self.now.sent) c.args.self.now c.args.slot c.args.octets.now (Some c.args.after) c.next-else-is_whole.result c.next-else-is_whole.ensures

pub returns-else-is_whole-clause-least : goal.returns-else-is_whole-clause-least
returns-else-is_whole-clause-least g c =
    least_waiting c.args.conf.now (linked c.args.links.now.entries c.args.self.now.sent) c.args.self.now c.args.slot c.args.octets.now (Some c.args.after) c.next-else-is_whole.result c.next-else-is_whole.ensures

pub returns-else-is_whole-clause-none : goal.returns-else-is_whole-clause-none
returns-else-is_whole-clause-none g c =
    none_waiting c.args.conf.now (linked c.args.links.now.entries c.args.self.now.sent) c.args.self.now c.args.slot c.args.octets.now (Some c.args.after) c.next-else-is_whole.result c.next-else-is_whole.ensures
