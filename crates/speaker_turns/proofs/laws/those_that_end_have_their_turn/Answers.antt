use Rattle.speaker_turns.proofs.Ending.{comes_nearer}
use Rattle.speaker_turns.proofs.laws.those_that_end_have_their_turn.Goals as goal

pub returns : goal.returns
returns c = comes_nearer
