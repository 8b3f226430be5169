use Rattle.std.proofs.Common.{◌≡◌, drop}
use Rattle.speaker_turns.specs.Turns.{Turns}
use Rattle.speaker_desk.specs.Attended.{EnablesAll}
use Rattle.speaker_desk.proofs.desk.Desk.enable_all.Given as goal

-- whatever enabling those that are left leads to, enabling all does
abbrev pub invariant-loop-slot : goal.invariant-loop-slot
invariant-loop-slot g l = ((new : Turns) → EnablesAll (drop l.slot-index l.slots) l.served new → EnablesAll l.slots l.fn.served new) × (l.self ≡ l.fn.self)
