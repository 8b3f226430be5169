use Rattle.std.proofs.Common.{◌∙◌, arith}
use Rattle.speaker.proofs.Passing.{QueuesOn-more}
use Rattle.routing.proofs.Results.{OnErr-got, OnOk-got}
use Rattle.speaker.proofs.Serving.{AreServed-more, served_all}
use Rattle.speaker.proofs.step.Speaker.pass.Goals as goal

pub returns-then-is_err-clause-stand : goal.returns-then-is_err-clause-stand
returns-then-is_err-clause-stand g c = λ s. c.serve_slot.ensures.stand s ∙ c.loop-slot.invariant.stand s

pub returns-then-is_err-clause-queues : goal.returns-then-is_err-clause-queues
returns-then-is_err-clause-queues g c = QueuesOn-more _ _ _ c.loop-slot.invariant.queues c.serve_slot.ensures.queues

pub returns-then-is_err-clause-short : goal.returns-then-is_err-clause-short
returns-then-is_err-clause-short g c = OnErr-got _ _ c.serve_slot.ensures.short c.if-is_err.ensures.value

pub loop-slot-preserved : goal.loop-slot-preserved
loop-slot-preserved g c = AreServed-more _ _ _ _ c.loop-slot.invariant c.serve_slot.ensures.only c.serve_slot.ensures.stand c.serve_slot.ensures.queues (OnOk-got _ _ c.serve_slot.ensures.served c.if-is_err.ensures.value)

pub returns-clause-served : goal.returns-clause-served
returns-clause-served g c =
    served_all c.args.self.now c.loop-slot.self c.loop-slot.slot c.loop-slot.invariant (λ s high low. rw (← c.self.view_is) (c.slots_end-slot-end.ensures.none s (omega (arith, c.loop-slot-test.false, high)) low))
