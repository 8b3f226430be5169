use Rattle.std.proofs.Common.{ap, refl}
use Rattle.loc_rib.specs.RibTables.{RibTables}
use Rattle.routing.specs.RoutingState.{RoutingState}
use Rattle.routing.specs.Sent.{linked}
use Rattle.routing.proofs.BroughtRoutes.{marked_brought}
use Rattle.routing.proofs.LinkedPeers.{marked_in}
use Rattle.routing.proofs.routing.Routing.bring.Goals as goal

pub returns-clause-marked : goal.returns-clause-marked
returns-clause-marked g c =
    let marked = rw (← c.self.view_is) at c.requires.marked in
    let inside = c.self.inside in
    let old : RoutingState = record { adj_in = inside.ribs.adj_in; book = inside.ribs.book; chosen = inside.ribs.chosen; sent = inside.ribs.sent; waiting = inside.waiting; alike = inside.alike } in
    let new : RoutingState = record { adj_in = c.bring.new.self.adj_in; book = c.bring.new.self.book; chosen = c.bring.new.self.chosen; sent = c.bring.new.self.sent; waiting = inside.waiting; alike = inside.alike } in
    marked_in c.args.conf.now c.args.links.now.entries new inside.ribs.sent c.bring.ensures.sent
    (marked_brought c.bring.result _ c.args.conf.now (linked c.args.links.now.entries inside.ribs.sent) c.args.slot c.args.prefix c.args.attrs.value old new marked refl refl c.bring.ensures.routes c.bring.ensures.back (λ r back. ap (λ (t : RibTables). t.adj_in) back.0) c.bring.ensures.err c.bring.ensures.rows c.bring.ensures.other)
