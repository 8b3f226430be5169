use Rattle.std.proofs.Common.{refl}
use Rattle.speaker.proofs.Commands.{holds_retracted}
use Rattle.speaker.proofs.step.Speaker.retract.Goals as goal

pub returns-clause-ok : goal.returns-clause-ok
returns-clause-ok g c = λ config r holds so_far.
    let here = rw (← c.self.view_is) at holds in
    let counted = rw (← c.self.view_is) at so_far in
    let did = c.retract.ensures in
    rw c.requires.retracts (holds_retracted config r c.args.prefix _ _ here did.conf did.networks did.routes did.offers refl refl refl did.payloads did.links refl did.chosen counted)
