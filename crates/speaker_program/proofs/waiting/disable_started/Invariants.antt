use Rattle.speaker_program.specs.HeldBack.{HeldBelow}
use Rattle.speaker_program.proofs.waiting.disable_started.Given as goal

abbrev pub invariant-loop-slot : goal.invariant-loop-slot
invariant-loop-slot g l = HeldBelow l.slot l.slots.items l.fn.served l.served
