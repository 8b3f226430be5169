use Rattle.std.proofs.Common.{refl}
use Rattle.speaker.proofs.Commands.{holds_exporting}
use Rattle.speaker.proofs.step.Speaker.use_out.Goals as goal

pub returns-clause-ok : goal.returns-clause-ok
returns-clause-ok g c = λ config r holds so_far.
    let name = c.requires.uses.0 in
    let is = c.requires.uses.1 in
    let here = rw (← c.self.view_is) at holds in
    let counted = rw (← c.self.view_is) at so_far in
    let did = rw is at c.use_out.ensures.conf in
    rw is (holds_exporting config r c.args.slot name _ _ here (rw did refl) counted)
