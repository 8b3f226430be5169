use Rattle.std.proofs.Common.{◌≡◌, ◌∙◌, ap}
use Rattle.bgp_peer.specs.Slot.{Slot}
use Rattle.speaker.proofs.PeersSeen.{link_seen, peer_same}
use Rattle.routing.proofs.Results.{OnTrue-if}
use Rattle.speaker.proofs.step.Speaker.is_up.Goals as goal

pub returns-in-Some-clause-up : goal.returns-in-Some-clause-up
returns-in-Some-clause-up g c =
    let seen = link_seen _ _ c.in-Some.ensures.value in
    rw (← c.self.view_is)
    (OnTrue-if c.is_established.result _ (λ up. (seen.0, seen.1, ap (λ (p : Slot). p.session.state) seen.2 ∙ c.is_established.ensures.0 up)))

pub returns-in-Some-clause-down : goal.returns-in-Some-clause-down
returns-in-Some-clause-down g c = λ down l linked established.
    let here = rw (← c.self.view_is) at linked in
    let same = peer_same _ _ l c.in-Some.ensures.value here in
    let up = c.is_established.ensures.1 (ap (λ (p : Slot). p.session.state) same ∙ established) in
    cc
