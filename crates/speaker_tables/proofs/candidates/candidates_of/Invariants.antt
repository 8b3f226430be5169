use Rattle.runs.specs.SpeakerState.{tables_of}
use Rattle.speaker_tables.proofs.CandidateLists.{AreCandidatesBelow}
use Rattle.speaker_tables.proofs.candidates.candidates_of.Given as goal

abbrev pub invariant-loop-slot : goal.invariant-loop-slot
invariant-loop-slot g l = AreCandidatesBelow (tables_of l.fn.speaker) l.fn.prefix l.slot l.candidates.items
