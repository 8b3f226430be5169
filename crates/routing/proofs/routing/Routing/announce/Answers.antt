use Rattle.std.proofs.Common.{◌≡◌, ◌==◌, ℕ, Some, cond, refl, sym, subst, ◌∙◌}
use Rattle.decision.specs.BookContents.{AreApart, offer_at, rows_of}
use Rattle.net_prefix.specs.declared.prefix.Prefix.{Prefix}
use Rattle.routing.specs.Marks.{AreMarkedBut}
use Rattle.routing.specs.MarksIn.{AreMarkedButIn}
use Rattle.routing.specs.RoutingState.{RoutingState}
use Rattle.routing.specs.Sent.{linked}
use Rattle.routing.proofs.Marking.{but_changed, but_marked, but_unlisted, routes_either}
use Rattle.routing.proofs.routing.Routing.announce.Goals as goal

pub announce-announced-requires-clause-apart : goal.announce-announced-requires-clause-apart
announce-announced-requires-clause-apart g c =
    subst (λ (t : RoutingState). AreApart (λ s. cond (c.args.slot == s) c.args.candidate (offer_at t.book s c.args.prefix))) (sym (c.self.view_is ∙ c.unlist.ensures.rest)) c.requires.apart

pub mark_peers-requires : goal.mark_peers-requires
mark_peers-requires g c =
    let conf = c.args.conf.now in
    let peers = c.args.links.now.entries in
    let links = linked peers c.args.self.now.sent in
    let inside = c.self.inside in
    let old : RoutingState = record { adj_in = inside.ribs.adj_in; book = inside.ribs.book; chosen = inside.ribs.chosen; sent = inside.ribs.sent; waiting = inside.waiting; alike = inside.alike } in
    let new : RoutingState = record { adj_in = c.announce-announced.new.self.adj_in; book = c.announce-announced.new.self.book; chosen = c.announce-announced.new.self.chosen; sent = c.announce-announced.new.self.sent; waiting = inside.waiting; alike = inside.alike } in
    let but =
    subst (λ (t : RoutingState). AreMarkedButIn c.args.prefix conf peers t) (sym (c.self.view_is ∙ c.unlist.ensures.rest))
    (but_unlisted conf links c.args.prefix c.args.self.now c.unlist.new.self.alike (but_marked conf links c.args.prefix c.args.self.now c.requires.marked) c.unlist.ensures.listed) in
    let routes = routes_either c.announce-announced.result c.args.slot c.args.prefix (Some c.args.attrs.value) old.adj_in new.adj_in ((s : ℕ) (p : Prefix) → offer_at new.book s p ≡ offer_at old.book s p) (rows_of new.book ≡ rows_of old.book) c.announce-announced.ensures.routes c.announce-announced.ensures.err in
    subst (λ sent. AreMarkedBut c.args.prefix conf (linked peers sent) new) (sym c.announce-announced.ensures.sent)
    (but_changed conf (linked peers inside.ribs.sent) c.args.prefix old new but refl refl c.announce-announced.ensures.others routes)
