use Rattle.std.proofs.Common.{rules, ◌≡◌, ◌==◌, ◌++◌, ℕ, Some, cond, drop, length, min, take, sym, ap, refl, ◌∙◌}
use Rattle.bgp_peer.specs.Slot.{Slot, handed}
use Rattle.routing.specs.Linked.{Linked}
use Rattle.routing.specs.Sent.{linked, linked_as, peer_in}
use Rattle.routing.proofs.LinkedPeers.{linked_put}
use Rattle.routes.proofs.FoundPeers.{found_as, never_found, never_lost, peer_found, put_as}
use Rattle.routes.proofs.SlotMarks.{marked_put}
use Rattle.routes.proofs.routes.Routes.take.Goals as goal

pub invariant_of-self-2 : goal.invariant_of-self-2
invariant_of-self-2 g c =
    let old = c.self.inside.links.entries in
    let new = (c.get_mut.follows.lender c.take.new.self).entries in
    let sent = c.self.inside.routing.sent in
    let put : (s : ℕ) → peer_in new s ≡ cond (s == c.args.slot) (Some c.take.new.self) (peer_in old s) = search rules in (
      c.self.invariant.0,
      marked_put c.self.inside.conf c.self.inside.routing c.args.slot (linked_as sent c.args.slot c.in_ok-peer.peer.now) (linked_as sent c.args.slot c.take.new.self) (linked old sent) (linked new sent) c.self.invariant.1
          (sym (found_as old sent c.args.slot c.in_ok-peer.peer.now c.in_ok-peer.ensures.value)) (ap (λ (p : Slot). p.session) c.take.ensures.exact) refl (linked_put c.args.slot (Some c.take.new.self) old new sent sent put (λ s other. refl)),
    )

pub returns-in_err-peer-clause-some : goal.returns-in_err-peer-clause-some
returns-in_err-peer-clause-some g c = rw (← c.self.view_is) (λ l there. absurd (never_found c.self.inside.links.entries c.self.inside.routing.sent c.args.slot l c.in_err-peer.ensures.value there))

pub returns-clause-none : goal.returns-clause-none
returns-clause-none g c = rw (← c.self.view_is) (λ none. absurd (never_lost c.self.inside.links.entries c.self.inside.routing.sent c.args.slot c.in_ok-peer.peer.now c.in_ok-peer.ensures.value none))

pub returns-clause-some : goal.returns-clause-some
returns-clause-some g c =
    let old = c.self.inside.links.entries in
    let new = (c.get_mut.follows.lender c.take.new.self).entries in
    let sent = c.self.inside.routing.sent in
    let put : (s : ℕ) → peer_in new s ≡ cond (s == c.args.slot) (Some c.take.new.self) (peer_in old s) = search rules in
    rw (← c.self.view_is)
    (λ l there.
    let same = peer_found old sent c.args.slot c.in_ok-peer.peer.now l c.in_ok-peer.ensures.value there in (
      c.take.ensures.count ∙ ap (λ (x : Linked). min (length c.args.buf.now) (length x.peer.ring)) same,
      c.take.ensures.octets ∙ ap (λ (x : Linked). take c.take.result x.peer.ring ++ drop c.take.result c.args.buf.now) same,
      put_as c.args.slot c.take.new.self _ old new sent sent put (λ s other. refl)
          (ap (linked_as sent c.args.slot) c.take.ensures.exact ∙ ap (λ (x : Linked). record { peer = handed x.peer c.take.result; adj_out = x.adj_out }) same),
    ))
