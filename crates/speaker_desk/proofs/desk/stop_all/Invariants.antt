use Rattle.speaker_desk.specs.Answering.{StopsBelow}
use Rattle.speaker_desk.proofs.desk.stop_all.Given as goal

abbrev pub invariant-loop-slot : goal.invariant-loop-slot
invariant-loop-slot g l = StopsBelow l.slot l.fn.served l.served
