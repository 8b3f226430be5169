use Rattle.log_limits.proofs.Runs.{counts_all}
use Rattle.log_limits.proofs.laws.each_line_is_written_or_counted.Goals as goal

pub returns : goal.returns
returns c = counts_all
