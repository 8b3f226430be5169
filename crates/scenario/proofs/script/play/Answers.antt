use Rattle.scenario.proofs.OutsideFaults.{counts-outside}
use Rattle.scenario.proofs.script.play.Goals as goal

pub returns-in_err-stage : goal.returns-in_err-stage
returns-in_err-stage g c = counts-outside c.from_residual.result c.from_residual.ensures.1
