use Rattle.std.proofs.Common.{◌≡◌, ◌==◌, ◌∙◌, true, false, ap, option_map, refl, subst, sym}
use Rattle.mio.specs.Event.{event_token}
use Rattle.mio.specs.declared.token.Token.{Token}
use Rattle.slab.specs.Slab.{Updates, get}
use Rattle.net_wires.specs.Readiness.{joined, listener_number}
use Rattle.net_wires.specs.declared.readiness.Readiness.{Readiness}
use Rattle.net_wires.proofs.Hearing.{AllMayStill-same, AllMayStill-told, AllMayStill-trans, heard_more, IsHeard-listener, IsHeard-told}
use Rattle.net_wires.proofs.waiter.hear.Goals as goal

pub loop-event-preserved-then-eq : goal.loop-event-preserved-then-eq
loop-event-preserved-then-eq c =
    let sockets = c.loop-event.sockets in
    let event = c.in-Some.event.now in
    let is : ((event_token event).0 == listener_number) ≡ true =
    ap (λ (token : Token). token.0 == listener_number) (sym c.token.ensures) ∙ (sym c.eq.ensures ∙ c.if-eq.true) in (
      c.loop-event.invariant.0,
      (λ may. refl),
      heard_more sockets sockets _ true _ _ _ event (AllMayStill-same sockets) (λ may. refl) (IsHeard-listener sockets event is) c.in-Some.ensures.steps c.loop-event.invariant.2,
    )

pub loop-event-preserved : goal.loop-event-preserved
loop-event-preserved c =
    let old = c.loop-event.sockets in
    let new = c.tell.new.self in
    let event = c.in-Some.event.now in
    let isn't : ((event_token event).0 == listener_number) ≡ false =
    ap (λ (token : Token). token.0 == listener_number) (sym c.token.ensures) ∙ (sym c.eq.ensures ∙ c.if-eq.false) in
    let At : Token → Type 0 = λ token. Updates old new token.0 (option_map (joined c.told_by.result) (get old token.0)) in
    let Told : Readiness → Type 0 = λ told. Updates old new (event_token event).0 (option_map (joined told) (get old (event_token event).0)) in
    let still = AllMayStill-told old new c.token-else-eq.result.0 c.told_by.result c.tell.ensures in
    let updates : Told _ = subst Told c.told_by.ensures (subst At c.token-else-eq.ensures c.tell.ensures) in (
      AllMayStill-trans c.args.sockets.now old new c.loop-event.invariant.0 still,
      c.loop-event.invariant.1,
      heard_more old new _ _ _ _ _ event still (λ may. may) (IsHeard-told old new c.loop-event.may_accept event isn't updates) c.in-Some.ensures.steps c.loop-event.invariant.2,
    )
