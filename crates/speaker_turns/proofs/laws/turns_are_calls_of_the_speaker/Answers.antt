use Rattle.speaker_turns.proofs.Carrying.{turns_agree}
use Rattle.speaker_turns.proofs.laws.turns_are_calls_of_the_speaker.Goals as goal

pub returns : goal.returns
returns c = turns_agree
