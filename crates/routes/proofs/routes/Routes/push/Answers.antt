use Rattle.std.proofs.Common.{rules, ◌≡◌, ◌==◌, ℕ, Some, cond, take, sym, ap, refl, ◌∙◌}
use Rattle.bgp_peer.specs.Slot.{Slot, pushed}
use Rattle.routing.specs.Linked.{Linked, taken_of}
use Rattle.routing.specs.Sent.{linked, linked_as, peer_in}
use Rattle.routing.proofs.LinkedPeers.{linked_put}
use Rattle.routes.proofs.FoundPeers.{found_as, never_found, never_lost, peer_found, put_as}
use Rattle.routes.proofs.SlotMarks.{marked_put}
use Rattle.routes.proofs.routes.Routes.push.Goals as goal

pub invariant_of-self-2 : goal.invariant_of-self-2
invariant_of-self-2 g c =
    let old = c.self.inside.links.entries in
    let new = (c.get_mut.follows.lender c.push_open.new.peer).entries in
    let sent = c.self.inside.routing.sent in
    let put : (s : ℕ) → peer_in new s ≡ cond (s == c.args.slot) (Some c.push_open.new.peer) (peer_in old s) = search rules in (
      c.self.invariant.0,
      marked_put c.self.inside.conf c.self.inside.routing c.args.slot (linked_as sent c.args.slot c.in-Some.peer.now) (linked_as sent c.args.slot c.push_open.new.peer) (linked old sent) (linked new sent) c.self.invariant.1
          (sym (found_as old sent c.args.slot c.in-Some.peer.now c.in-Some.ensures.value)) (ap (λ (p : Slot). p.session) c.push_open.ensures.peer) refl (linked_put c.args.slot (Some c.push_open.new.peer) old new sent sent put (λ s other. refl)),
    )

pub returns-in_default-clause-count : goal.returns-in_default-clause-count
returns-in_default-clause-count g c = rw (← c.self.view_is) (λ l there. absurd (never_found c.self.inside.links.entries c.self.inside.routing.sent c.args.slot l c.in_default.ensures.value there))

pub returns-in_default-clause-puts : goal.returns-in_default-clause-puts
returns-in_default-clause-puts g c = rw (← c.self.view_is) (λ l there. absurd (never_found c.self.inside.links.entries c.self.inside.routing.sent c.args.slot l c.in_default.ensures.value there))

pub returns-clause-none : goal.returns-clause-none
returns-clause-none g c = rw (← c.self.view_is) (λ none. absurd (never_lost c.self.inside.links.entries c.self.inside.routing.sent c.args.slot c.in-Some.peer.now c.in-Some.ensures.value none))

pub returns-clause-count : goal.returns-clause-count
returns-clause-count g c =
    rw (← c.self.view_is)
    (λ l there. c.push_open.ensures.count ∙ ap (λ (x : Linked). taken_of x.peer c.args.octets.now) (peer_found c.self.inside.links.entries c.self.inside.routing.sent c.args.slot c.in-Some.peer.now l c.in-Some.ensures.value there))

pub returns-clause-puts : goal.returns-clause-puts
returns-clause-puts g c =
    let old = c.self.inside.links.entries in
    let new = (c.get_mut.follows.lender c.push_open.new.peer).entries in
    let sent = c.self.inside.routing.sent in
    let put : (s : ℕ) → peer_in new s ≡ cond (s == c.args.slot) (Some c.push_open.new.peer) (peer_in old s) = search rules in
    rw (← c.self.view_is)
    (λ l there. put_as c.args.slot c.push_open.new.peer _ old new sent sent put (λ s other. refl)
    (ap (linked_as sent c.args.slot) c.push_open.ensures.peer
    ∙ ap (λ (x : Linked). record { peer = pushed x.peer (take c.push_open.result c.args.octets.now); adj_out = x.adj_out }) (peer_found old sent c.args.slot c.in-Some.peer.now l c.in-Some.ensures.value there)))
