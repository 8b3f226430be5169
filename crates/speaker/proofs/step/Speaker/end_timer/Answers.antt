use Rattle.std.proofs.Common.{◌≡◌, ap, refl, sym, ◌∙◌}
use Rattle.bgp_fsm.specs.TimerMoments.{has_ended}
use Rattle.bgp_peer.specs.Slot.{Slot}
use Rattle.speaker.proofs.PeersSeen.{link_seen, peer_in_link, unseen}
use Rattle.speaker.proofs.TimerEnds.{ends_later, ends_now, ends_vacant}
use Rattle.speaker.proofs.step.Speaker.end_timer.Goals as goal

pub returns-in_default-clause-ends : goal.returns-in_default-clause-ends
returns-in_default-clause-ends g c = ends_vacant c.args.slot c.args.timer _ c.args.self.now refl (rw (← c.self.view_is) (unseen peer_in_link _ c.in_default.ensures.value))

pub returns-then-not-has_ended-clause-ends : goal.returns-then-not-has_ended-clause-ends
returns-then-not-has_ended-clause-ends g c =
    let seen = link_seen _ _ c.in-Some.ensures.value in
    ends_later c.args.slot c.args.timer _ seen.0 c.args.self.now refl (rw (← c.self.view_is) seen.1)
    (rw (← c.self.view_is, seen.2) (sym c.has_ended.ensures ∙ c.if-not-has_ended.true))

pub returns-clause-ends : goal.returns-clause-ends
returns-clause-ends g c =
    let seen = link_seen _ _ c.in-Some.ensures.value in
    ends_now c.args.slot c.args.timer c.input.result seen.0 c.args.self.now c.input.new.self (rw (← c.self.view_is) seen.1)
    (rw (← c.self.view_is, seen.2) (sym c.has_ended.ensures ∙ c.if-not-has_ended.false))
    (c.input.ensures.moves seen.0 (rw (← c.self.view_is) seen.1))
    (c.input.ensures.chosen seen.0 (rw (← c.self.view_is) seen.1))
    (c.input.ensures.opened seen.0 (rw (← c.self.view_is) seen.1))
