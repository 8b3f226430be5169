use Rattle.speaker_program.proofs.TakenTurns.{taken_are_turns}
use Rattle.speaker_program.proofs.laws.served_turns_are_turns.Goals as goal

pub returns : goal.returns
returns c = taken_are_turns
