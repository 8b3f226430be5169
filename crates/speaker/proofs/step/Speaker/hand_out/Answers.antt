use Rattle.std.proofs.Common.{◌≡◌, length, min, refl}
use Rattle.speaker.proofs.RoutesSeen.{hands_out}
use Rattle.speaker.proofs.step.Speaker.hand_out.Goals as goal

pub returns-clause-none : goal.returns-clause-none
returns-clause-none g c = λ none.
    let here = c.take.ensures.none (rw (← c.self.view_is) at none) in
    (here.0, rw (← c.self.view_is, here.1) refl, here.2)

pub returns-clause-some : goal.returns-clause-some
returns-clause-some g c = λ l linked.
    let here = rw (← c.self.view_is) at linked in
    rw (← c.self.view_is) (hands_out (λ taken. taken ≡ min (length c.args.buf.now) (length l.peer.ring)) c.self.inside.config c.self.inside.moment c.self.inside.cache c.self.inside.chosen_before c.args.slot l _ _ c.take.result c.self.inside.routes c.take.new.self (c.take.ensures.some l here) c.take.ensures.rest)
