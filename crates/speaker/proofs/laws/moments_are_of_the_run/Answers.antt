use Rattle.runs.proofs.Moments.{moment_same}
use Rattle.speaker.proofs.laws.moments_are_of_the_run.Goals as goal

pub returns : goal.returns
returns c = moment_same
