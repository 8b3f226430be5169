use Rattle.std.proofs.Common.{◌≡◌, false}
use Rattle.speaker_program.proofs.journal.LoopJournal.tell_notes.Given as goal

-- over what was told so far a log that is off stays so
abbrev pub invariant-loop-note : goal.invariant-loop-note
invariant-loop-note g l = (l.self.journal.is_on ≡ l.fn.self.journal.is_on) × (l.fn.self.journal.is_on ≡ false → l.output ≡ l.fn.output)
