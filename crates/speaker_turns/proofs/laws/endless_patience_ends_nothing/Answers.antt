use Rattle.speaker_turns.proofs.Patient.{endless_ends_nothing}
use Rattle.speaker_turns.proofs.laws.endless_patience_ends_nothing.Goals as goal

pub returns : goal.returns
returns c = endless_ends_nothing
