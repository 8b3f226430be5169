use Rattle.std.proofs.Common.{◌≡◌, ◌∙◌, ◌+◌, ◌++◌, ℕ, [], ◌∷◌, take, refl, ap, sym, arith}
use Rattle.std.proofs.lemmas.List.{take_all, take_more}
use Rattle.speaker.proofs.ListedEvents.{played_more}
use Rattle.speaker.proofs.trace.play.Goals as goal

pub loop-event-init : goal.loop-event-init
loop-event-init g c = (λ config before. rw c.requires.none before, c.requires.empty, refl)

pub push_reserved-requires : goal.push_reserved-requires
push_reserved-requires g c = omega (arith, c.loop-event.invariant.1, c.loop-event.invariant.2, c.requires.room, c.loop-event-test.true)

pub loop-event-preserved : goal.loop-event-preserved
loop-event-preserved g c = (
  λ config before.
      let more = played_more config _ _ c.event-item.result c.step-answer.result _ c.step-answer.new.self (c.loop-event.invariant.0 config before) c.step-answer.ensures.agrees c.step-answer.ensures.counted c.step-answer.ensures.rises c.step-answer.ensures.refused in
      let taken : take (c.loop-event.event-index + 1) c.args.events.now ≡ take c.loop-event.event-index c.args.events.now ++ c.event-item.result ∷ [] =
      take_more c.args.events.now c.loop-event.event-index c.event-item.result c.loop-event-test.true
      ∙ ap (λ e. take c.loop-event.event-index c.args.events.now ++ e ∷ []) (sym c.event-item.is) in
      rw (c.push_reserved.ensures.items, taken) more,
  c.push_reserved.ensures.len ∙ ap (λ (n : ℕ). n + 1) c.loop-event.invariant.1,
  c.push_reserved.ensures.capacity ∙ c.loop-event.invariant.2,
)

pub returns : goal.returns
returns g c = λ config before.
    let all : take c.loop-event.event-index c.args.events.now ≡ c.args.events.now = take_all _ _ c.loop-event-test.false in
    rw all at (c.loop-event.invariant.0 config before)
