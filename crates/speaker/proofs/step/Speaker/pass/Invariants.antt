use Rattle.speaker.proofs.Serving.{AreServed}
use Rattle.speaker.proofs.step.Speaker.pass.Given as goal

abbrev pub invariant-loop-slot : goal.invariant-loop-slot
invariant-loop-slot g l = AreServed l.initial.self l.self l.slot
