use Rattle.speaker_desk.specs.Attended.{BeginsBelow}
use Rattle.speaker_desk.proofs.desk.Desk.begin_again.Given as goal

abbrev pub invariant-loop-slot : goal.invariant-loop-slot
invariant-loop-slot g l = BeginsBelow l.slot (record { served = l.fn.served; desk = l.fn.self }) (record { served = l.served; desk = l.self })
