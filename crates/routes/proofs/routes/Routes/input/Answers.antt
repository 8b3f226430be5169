use Rattle.std.proofs.Common.{◌≡◌, ◌==◌, ℕ, Bool, Some, true, false, not, cond, rules, refl, sym, ap, subst, ◌∙◌, inl, inr}
use Rattle.bgp_fsm.specs.SessionTable.{effects_of}
use Rattle.bgp_fsm.specs.declared.session.Effects.{Effects}
use Rattle.rib_out.specs.Held.{all_asked}
use Rattle.routing.specs.Linked.{Linked, moved}
use Rattle.routing.specs.RoutesState.{RoutesState, TakesInput}
use Rattle.routing.specs.Sent.{linked, linked_as, peer_in}
use Rattle.routing.specs.Tables.{link_at}
use Rattle.routing.proofs.LinkedPeers.{few_in}
use Rattle.routing.proofs.Owing.{state_of}
use Rattle.routes.proofs.FoundPeers.{found_as, marked_sent, moved_as, never_found, never_lost, peer_found}
use Rattle.routes.proofs.SlotMarks.{IsNow, followed}
use Rattle.routes.proofs.routes.Routes.input.Goals as goal
use Rattle.routes.proofs.routes.Routes.input.Goals.{then-effects, else-effects}

was_so : (was : Bool) → not was ≡ false → was ≡ true
was_so true is = refl
was_so false is = cc

pub held-requires : goal.held-requires
held-requires g c = few_in c.self.inside.links.entries c.self.inside.routing.sent c.self.invariant.1.there c.args.slot c.in-Some.peer.now (sym c.in-Some.ensures.value)

pub follow-requires : goal.follow-requires
follow-requires g c = few_in c.self.inside.links.entries c.self.inside.routing.sent c.self.invariant.1.there c.args.slot c.in-Some.peer.now (sym c.in-Some.ensures.value)

pub follow-requires-2 : goal.follow-requires-2
follow-requires-2 g c =
    let old = c.self.inside.links.entries in
    let new = (c.get_mut.follows.lender c.input-effects.new.self).entries in
    let t = c.self.inside.routing in
    let u = c.follow.new.self in
    let l = linked_as t.sent c.args.slot c.in-Some.peer.now in
    let put : (s : ℕ) → peer_in new s ≡ cond (s == c.args.slot) (Some c.input-effects.new.self) (peer_in old s) = search rules in
    let now : IsNow c.args.slot (moved c.args.now l c.args.input) (linked old t.sent) (linked new u.sent) =
    moved_as c.args.now c.args.slot c.in-Some.peer.now c.input-effects.new.self c.args.input c.input-effects.result old new t.sent u.sent put c.input-effects.ensures.exact c.input-effects.ensures.effects c.follow.ensures.sent in
    let marked = marked_sent c.self.inside.conf (linked old t.sent) t u c.follow.ensures.rest c.self.invariant.1 in
    rw c.input-effects.ensures.effects
    (followed c.args.now c.self.inside.conf u c.args.slot l c.args.input _ (linked old t.sent) (linked new u.sent) marked (sym (found_as old t.sent c.args.slot c.in-Some.peer.now c.in-Some.ensures.value)) now
    (λ unasked. elim c.if-effects.branch [
      | then-effects w ↦ inr (subst (λ a. all_asked a ≡ a) c.held.ensures (c.is_all_asked-was_asked.ensures (was_so _ (sym w.asks-is ∙ unasked))))
      | else-effects w ↦ inl (sym (ap (λ (e : Effects). e.refreshed) c.input-effects.ensures.effects) ∙ w.if-effects.false)
    ]))

pub returns-in_default-clause-moves : goal.returns-in_default-clause-moves
returns-in_default-clause-moves g c = rw (← c.self.view_is) (λ l there. absurd (never_found c.self.inside.links.entries c.self.inside.routing.sent c.args.slot l c.in_default.ensures.value there))

pub returns-in_default-clause-opened : goal.returns-in_default-clause-opened
returns-in_default-clause-opened g c = rw (← c.self.view_is) (λ l there. absurd (never_found c.self.inside.links.entries c.self.inside.routing.sent c.args.slot l c.in_default.ensures.value there))

pub returns-clause-none : goal.returns-clause-none
returns-clause-none g c = rw (← c.self.view_is) (λ none. absurd (never_lost c.self.inside.links.entries c.self.inside.routing.sent c.args.slot c.in-Some.peer.now c.in-Some.ensures.value none))

pub returns-clause-opened : goal.returns-clause-opened
returns-clause-opened g c =
    rw (← c.self.view_is)
    (λ l there. ap (λ (e : Effects). e.opened) c.input-effects.ensures.effects
    ∙ ap (λ (x : Linked). (effects_of c.args.input x.peer.session).opened) (peer_found c.self.inside.links.entries c.self.inside.routing.sent c.args.slot c.in-Some.peer.now l c.in-Some.ensures.value there))

pub returns-clause-moves : goal.returns-clause-moves
returns-clause-moves g c =
    let old = c.self.inside.links.entries in
    let new = (c.get_mut.follows.lender c.input-effects.new.self).entries in
    let t = c.self.inside.routing in
    let u = c.follow.new.self in
    let v = c.follow-2.new.routing in
    let put : (s : ℕ) → peer_in new s ≡ cond (s == c.args.slot) (Some c.input-effects.new.self) (peer_in old s) = search rules in
    let l = linked_as t.sent c.args.slot c.in-Some.peer.now in
    let now : IsNow c.args.slot (moved c.args.now l c.args.input) (linked old t.sent) (linked new u.sent) =
    moved_as c.args.now c.args.slot c.in-Some.peer.now c.input-effects.new.self c.args.input c.input-effects.result old new t.sent u.sent put c.input-effects.ensures.exact c.input-effects.ensures.effects c.follow.ensures.sent in
    let before : RoutesState = state_of c.self.inside.conf c.self.inside.payloads (linked old t.sent) t in
    let after : RoutesState = state_of c.self.inside.conf c.self.inside.payloads (linked new v.sent) v in
    let rest = c.follow.ensures.rest in
    let told = c.input-effects.ensures.effects in
    let routes = rw (told, rest) at c.follow-2.ensures.routes in
    let offers = rw (told, rest) at c.follow-2.ensures.offers in
    let ends = rw (told, rest) at c.follow-2.ensures.chosen in
    let stays = rw (told, rest) at c.follow-2.ensures.stays in
    let takes : TakesInput c.args.slot l c.args.now c.args.input before after = record {
      links = λ s. ap (λ sent. link_at (linked new sent) s) c.follow-2.ensures.sent ∙ now s;
      routes = routes;
      offers = offers;
      ends = ends;
      stays = stays;
    } in
    rw (← c.self.view_is)
    (λ x there. subst (λ (y : Linked). TakesInput c.args.slot y c.args.now c.args.input before after) (peer_found old t.sent c.args.slot c.in-Some.peer.now x c.in-Some.ensures.value there) takes)
