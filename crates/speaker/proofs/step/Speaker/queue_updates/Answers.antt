use Rattle.std.proofs.Common.{◌∙◌, refl, arith}
use Rattle.speaker.specs.Serving.{is_standing}
use Rattle.routing.specs.Tables.{link_at}
use Rattle.speaker.proofs.Standing.{QueuesAll-none, QueuesAll-on, QueuesAll-starved, count_less, count_same, fewer, short_stands}
use Rattle.speaker.proofs.step.Speaker.queue_updates.Goals as goal

pub loop-slot-init : goal.loop-slot-init
loop-slot-init g c = (QueuesAll-none _, refl, omega arith)

pub loop-slot-smaller : goal.loop-slot-smaller
loop-slot-smaller g c =
    let same = count_same (λ s. is_standing (link_at c.loop-slot.self.links s)) (λ s. is_standing (link_at c.pass.new.self.links s)) c.pass.ensures.stand 64 in
    let less = count_less (λ s. is_standing (link_at c.pass.new.self.links s)) (λ s. is_standing (link_at c.starve.new.self.links s)) c.in-Some.slot (short_stands c.pass.new.self c.in-Some.slot c.in-Some.ensures.short) c.starve.ensures.stand 64 c.in-Some.ensures.short.within in
    fewer _ _ _ same less

pub loop-slot-preserved : goal.loop-slot-preserved
loop-slot-preserved g c = (
  QueuesAll-starved _ _ _ _ _ _ _ c.slot_bit-starved.ensures refl (QueuesAll-on _ _ _ _ c.loop-slot.invariant.0 c.pass.ensures.queues) c.starve.ensures.queues,
  c.starve.ensures.counted ∙ c.pass.ensures.counted ∙ c.loop-slot.invariant.1,
  (let before = c.loop-slot.invariant.2 in let passed = c.pass.ensures.rises in let starved = c.starve.ensures.rises in omega (arith, before, passed, starved)),
)

pub returns-clause-queues : goal.returns-clause-queues
returns-clause-queues g c = QueuesAll-on _ _ _ _ c.loop-slot.invariant.0 c.pass.ensures.queues

pub returns-clause-counted : goal.returns-clause-counted
returns-clause-counted g c = c.pass.ensures.counted ∙ c.loop-slot.invariant.1

pub returns-clause-rises : goal.returns-clause-rises
returns-clause-rises g c = let before = c.loop-slot.invariant.2 in let passed = c.pass.ensures.rises in omega (arith, before, passed)
