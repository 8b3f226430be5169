use Rattle.std.proofs.Common.{◌∙◌, ap, sym}
use Rattle.std.specs.Option.{option_map}
use Rattle.speaker.proofs.ShownRoutes.{configured_shown}
use Rattle.speaker.proofs.step.Speaker.session.Goals as goal

pub returns-clause-agrees : goal.returns-clause-agrees
returns-clause-agrees g c = λ config r a. c.state_of.ensures ∙ ap (λ found. option_map (λ s. s.state) found) (sym (configured_shown config r c.args.self.now c.args.slot a))
