use Rattle.std.proofs.Common.{refl, ap}
use Rattle.routing.specs.RoutesState.{RoutesState}
use Rattle.speaker.proofs.Commands.{holds_resolved, resolved, resolved_opened}
use Rattle.speaker.proofs.RoutesSeen.{made_of}
use Rattle.speaker.proofs.step.Speaker.resolve.Goals as goal

pub returns-clause-ok : goal.returns-clause-ok
returns-clause-ok g c = λ config r holds.
    let here = rw (← c.self.view_is) at holds in
    let did = c.in_ok-resolve.ensures in
    let rest = c.in_ok-resolve.ensures.rest in (
      holds_resolved config r c.args.command.now _ _ (resolved config r _ c.args.command.now c.requires.resolves) here did.conf did.peers refl refl refl c.resolve.ensures.payloads (ap (λ (s : RoutesState). s.links) rest) (ap (λ (s : RoutesState). s.adj_in) rest)
          (made_of _ _ _ c.self.inside.routes c.resolve.new.self rest did.made) did.chosen.0 did.chosen.1 did.chosen.2 c.chosen-before.ensures,
      resolved_opened config r c.args.command.now c.requires.resolves,
    )
