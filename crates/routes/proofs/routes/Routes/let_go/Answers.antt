use Rattle.std.proofs.Common.{rules, ◌≡◌, ◌==◌, ℕ, [], None, cond, ap, subst, sym}
use Rattle.decision.specs.BookContents.{offer_at}
use Rattle.routing.specs.Offers.{IsSound}
use Rattle.routing.specs.RoutingState.{RoutingState}
use Rattle.routing.specs.Sent.{linked, peer_in}
use Rattle.routing.proofs.LinkedPeers.{linked_put, tables_off}
use Rattle.routes.proofs.AddedMarks.{marked_gone}
use Rattle.routes.proofs.FoundPeers.{marked_sent}
use Rattle.routes.proofs.routes.Routes.let_go.Goals as goal

pub invariant_of-self : goal.invariant_of-self
invariant_of-self g c =
    let nobody = rw (← c.self.view_is) at c.requires in
    let old = c.self.inside.links.entries in
    let new = c.remove.new.self.entries in
    let t = c.self.inside.routing in
    let u = c.forget.new.self in
    let gone : (s : ℕ) → peer_in new s ≡ cond (s == c.args.slot) None (peer_in old s) = search rules in (
      subst (λ b. IsSound c.self.inside.conf (offer_at b)) (sym (ap (λ (x : RoutingState). x.book) c.forget.ensures.rest)) c.self.invariant.0,
      marked_sent c.self.inside.conf (linked new u.sent) t u c.forget.ensures.rest
          (marked_gone c.self.inside.conf (linked old t.sent) (linked new u.sent) t c.args.slot c.self.invariant.1 nobody (linked_put c.args.slot None old new t.sent u.sent gone (tables_off c.args.slot [] t.sent u.sent c.forget.ensures.sent))),
    )

pub returns-clause-gone : goal.returns-clause-gone
returns-clause-gone g c =
    let old = c.self.inside.links.entries in
    let new = c.remove.new.self.entries in
    let t = c.self.inside.routing in
    let u = c.forget.new.self in
    let gone : (s : ℕ) → peer_in new s ≡ cond (s == c.args.slot) None (peer_in old s) = search rules in
    rw (← c.self.view_is) (linked_put c.args.slot None old new t.sent u.sent gone (tables_off c.args.slot [] t.sent u.sent c.forget.ensures.sent))
