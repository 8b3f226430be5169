use Rattle.log_limits.proofs.Runs.{writes_few}
use Rattle.log_limits.proofs.laws.no_more_are_written_in_a_minute.Goals as goal

pub returns : goal.returns
returns c = writes_few
