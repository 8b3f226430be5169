use Rattle.std.proofs.Common.{◌∙◌, refl, subst}
use Rattle.speaker.proofs.TimerEnds.{HasTicked, HasTicked-end, HasTicked-more, HasTicked-start, only_64}
use Rattle.speaker.proofs.step.Speaker.end_all_timers.Goals as goal
use Rattle.speaker.proofs.step.Speaker.end_all_timers.Goals.{then-end_timers, else-end_timers}

pub loop-slot-init : goal.loop-slot-init
loop-slot-init g c = HasTicked-start _

pub loop-slot-preserved : goal.loop-slot-preserved
loop-slot-preserved g c =
    elim c.if-end_timers.branch [
      | then-end_timers w ↦
          HasTicked-more _ _ _ _ c.end_timers.result _ _ c.loop-slot.invariant c.end_timers.ensures.ends c.end_timers.ensures.counted c.end_timers.ensures.rises (w.opened-is ∙ rw (w.slot_bit-opened.ensures, w.if-end_timers.true) refl)
      | else-end_timers w ↦ HasTicked-more _ _ _ _ c.end_timers.result _ _ c.loop-slot.invariant c.end_timers.ensures.ends c.end_timers.ensures.counted c.end_timers.ensures.rises (w.opened-is ∙ rw w.if-end_timers.false refl)
    ]

pub returns-clause-ends : goal.returns-clause-ends
returns-clause-ends g c =
    HasTicked-end c.args.self.now c.loop-slot.opened c.loop-slot.self (subst (λ n. HasTicked c.args.self.now n c.loop-slot.opened c.loop-slot.self) (only_64 c.loop-slot.slot c.loop-slot.auto.slot-end c.loop-slot-test.false) c.loop-slot.invariant)
