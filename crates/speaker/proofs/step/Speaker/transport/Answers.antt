use Rattle.std.proofs.Common.{◌∙◌, ap, sym}
use Rattle.speaker.specs.Shown.{transport_at}
use Rattle.speaker.proofs.ShownRoutes.{session_shown}
use Rattle.speaker.proofs.step.Speaker.transport.Goals as goal

pub returns-clause-agrees : goal.returns-clause-agrees
returns-clause-agrees g c = λ config r a. c.transport_to.ensures ∙ ap (λ found. transport_at found) (sym (session_shown config r c.args.self.now c.args.slot a))
