use Rattle.speaker_desk.proofs.Attended.{attended_are_moves}
use Rattle.speaker_desk.proofs.laws.attended_turns_are_moves.Goals as goal

pub returns : goal.returns
returns g c = attended_are_moves _ _ _ _
