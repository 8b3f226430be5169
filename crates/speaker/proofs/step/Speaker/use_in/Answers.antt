use Rattle.std.proofs.Common.{refl, ap}
use Rattle.routing.specs.RoutesState.{RoutesState}
use Rattle.routes.proofs.PutSlots.{slot_used}
use Rattle.speaker.proofs.Commands.{holds_used}
use Rattle.speaker.proofs.RoutesSeen.{made_of}
use Rattle.speaker.proofs.step.Speaker.use_in.Goals as goal

pub returns-clause-ok : goal.returns-clause-ok
returns-clause-ok g c = λ config r holds so_far.
    let name = c.requires.uses.0 in
    let is = c.requires.uses.1 in
    let here = rw (← c.self.view_is) at holds in
    let counted = rw (← c.self.view_is) at so_far in
    let may = rw (← c.self.view_is, is) at c.requires.accepted in
    let conf = rw is at c.use_in.ensures.conf in
    let rest = c.use_in.ensures.rest in
    rw is (holds_used 0 config r c.args.slot name _ _ (slot_used c.self.inside.routes.conf c.args.slot name 0 may) may here conf refl refl refl c.use_in.ensures.payloads (ap (λ (s : RoutesState). s.links) rest) (ap (λ (s : RoutesState). s.adj_in) rest)
    (made_of _ _ _ c.self.inside.routes c.use_in.new.self rest c.use_in.ensures.made) c.use_in.ensures.chosen refl counted)
