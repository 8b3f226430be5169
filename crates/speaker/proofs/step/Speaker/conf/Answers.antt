use Rattle.std.proofs.Common.{◌∙◌}
use Rattle.speaker.proofs.step.Speaker.conf.Goals as goal

pub returns-clause-agrees : goal.returns-clause-agrees
returns-clause-agrees g c = λ config r a. c.configuration.ensures ∙ a.holds.conf
