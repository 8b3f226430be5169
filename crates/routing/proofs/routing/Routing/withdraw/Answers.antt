use Rattle.std.proofs.Common.{None, refl, sym, subst, ◌∙◌}
use Rattle.routing.specs.Marks.{AreMarkedBut}
use Rattle.routing.specs.MarksIn.{AreMarkedButIn}
use Rattle.routing.specs.RoutingState.{RoutingState}
use Rattle.routing.specs.Sent.{linked}
use Rattle.routing.proofs.Marking.{but_changed, but_marked, but_unlisted, routes_off}
use Rattle.routing.proofs.routing.Routing.withdraw.Goals as goal

pub mark_peers-requires : goal.mark_peers-requires
mark_peers-requires g c =
    let conf = c.args.conf.now in
    let peers = c.args.links.now.entries in
    let links = linked peers c.args.self.now.sent in
    let inside = c.self-2.inside in
    let old : RoutingState = record { adj_in = inside.ribs.adj_in; book = inside.ribs.book; chosen = inside.ribs.chosen; sent = inside.ribs.sent; waiting = inside.waiting; alike = inside.alike } in
    let new : RoutingState = record { adj_in = c.withdraw.new.self.adj_in; book = c.withdraw.new.self.book; chosen = c.withdraw.new.self.chosen; sent = c.withdraw.new.self.sent; waiting = inside.waiting; alike = inside.alike } in
    let but =
    subst (λ (t : RoutingState). AreMarkedButIn c.args.prefix conf peers t) (sym (c.self-2.view_is ∙ c.unlist.ensures.rest))
    (but_unlisted conf links c.args.prefix c.args.self.now c.unlist.new.self.alike (but_marked conf links c.args.prefix c.args.self.now c.requires) c.unlist.ensures.listed) in
    subst (λ sent. AreMarkedBut c.args.prefix conf (linked peers sent) new) (sym c.withdraw.ensures.sent)
    (but_changed conf (linked peers inside.ribs.sent) c.args.prefix old new but refl refl c.withdraw.ensures.others (routes_off c.args.slot c.args.prefix None old.adj_in new.adj_in c.withdraw.ensures.routes))
