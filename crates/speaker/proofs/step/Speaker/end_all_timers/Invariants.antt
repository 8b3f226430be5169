use Rattle.speaker.proofs.TimerEnds.{HasTicked}
use Rattle.speaker.proofs.step.Speaker.end_all_timers.Given as goal

abbrev pub invariant-loop-slot : goal.invariant-loop-slot
invariant-loop-slot g l = HasTicked l.initial.self l.slot l.opened l.self
