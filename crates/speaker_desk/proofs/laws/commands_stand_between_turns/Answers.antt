use Rattle.speaker_desk.proofs.Moving.{moves_agree}
use Rattle.speaker_desk.proofs.laws.commands_stand_between_turns.Goals as goal

pub returns : goal.returns
returns c = moves_agree
