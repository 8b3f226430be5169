use Rattle.speaker_turns.proofs.Outlasting.{outlasts_a_step}
use Rattle.speaker_turns.proofs.laws.what_is_heard_outlasts_a_step.Goals as goal

pub returns : goal.returns
returns c = outlasts_a_step
