use Rattle.speaker_desk.proofs.Rounds.{fewer_were_stopped}
use Rattle.speaker_desk.proofs.laws.fewer_turns_were_stopped.Goals as goal

pub returns : goal.returns
returns g c = fewer_were_stopped _ _ _ _
