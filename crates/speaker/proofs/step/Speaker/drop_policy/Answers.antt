use Rattle.std.proofs.Common.{refl}
use Rattle.speaker.proofs.Commands.{holds_dropped}
use Rattle.speaker.proofs.step.Speaker.drop_policy.Goals as goal

pub returns-clause-ok : goal.returns-clause-ok
returns-clause-ok g c = λ config r holds so_far.
    let name = c.requires.drops.0 in
    let is = c.requires.drops.1 in
    let here = rw (← c.self.view_is) at holds in
    let counted = rw (← c.self.view_is) at so_far in
    let may = rw (← c.self.view_is, is) at c.requires.accepted in
    let did = rw is at c.drop_policy.ensures.conf in
    rw is (holds_dropped 0 config r name _ _ may here (rw did refl) counted)
