use Rattle.std.proofs.Common.{◌∙◌, ap}
use Rattle.origin_valid.specs.Validity.{validity}
use Rattle.speaker.proofs.AskedRoutes.{agreed_in_force}
use Rattle.speaker.proofs.step.Speaker.state.Goals as goal

pub returns-clause-agrees : goal.returns-clause-agrees
returns-clause-agrees g c = λ config r a. c.state_in_force.ensures ∙ ap (λ set. validity set c.args.prefix c.args.origin) (agreed_in_force config r c.args.self.now a)
