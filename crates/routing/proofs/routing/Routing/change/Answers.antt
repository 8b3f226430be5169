use Rattle.std.proofs.Common.{refl, sym, ap, subst, ◌∙◌}
use Rattle.decision.specs.BookContents.{AreApart, changed, offer_at}
use Rattle.rib_in.specs.LatestRoutes.{route_at}
use Rattle.routing.specs.Marks.{AreMarkedBut}
use Rattle.routing.specs.MarksIn.{AreMarkedButIn}
use Rattle.routing.specs.RoutingState.{RoutingState}
use Rattle.routing.specs.Sent.{linked}
use Rattle.routing.proofs.Marking.{but_changed, but_marked, but_unlisted}
use Rattle.routing.proofs.routing.Routing.change.Goals as goal

pub mark_peers-requires : goal.mark_peers-requires
mark_peers-requires g c =
    let conf = c.args.conf.now in
    let peers = c.args.links.now.entries in
    let links = linked peers c.args.self.now.sent in
    let old : RoutingState = record { adj_in = c.self.inside.ribs.adj_in; book = c.self.inside.ribs.book; chosen = c.self.inside.ribs.chosen; sent = c.self.inside.ribs.sent; waiting = c.self.inside.waiting; alike = c.self.inside.alike } in
    let new : RoutingState = record { adj_in = c.change.new.self.adj_in; book = c.change.new.self.book; chosen = c.change.new.self.chosen; sent = c.change.new.self.sent; waiting = c.self.inside.waiting; alike = c.self.inside.alike } in
    let but =
    subst (λ (t : RoutingState). AreMarkedButIn c.args.prefix conf peers t) (sym (c.self.view_is ∙ c.unlist.ensures.rest))
    (but_unlisted conf links c.args.prefix c.args.self.now c.unlist.new.self.alike (but_marked conf links c.args.prefix c.args.self.now c.requires.marked) c.unlist.ensures.listed) in
    subst (λ sent. AreMarkedBut c.args.prefix conf (linked peers sent) new) (sym c.change.ensures.sent)
    (but_changed conf (linked peers c.self.inside.ribs.sent) c.args.prefix old new but refl refl c.change.ensures.others (λ s p other. ap (λ t. route_at t s p) c.change.ensures.routes))

pub change-requires-clause-apart : goal.change-requires-clause-apart
change-requires-clause-apart g c =
    subst (λ (t : RoutingState). AreApart (λ s. changed c.args.changes.now s (offer_at t.book s c.args.prefix))) (sym (c.self.view_is ∙ c.unlist.ensures.rest)) c.requires.apart
