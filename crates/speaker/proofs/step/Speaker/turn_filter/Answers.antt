use Rattle.std.proofs.Common.{ap, refl, sym}
use Rattle.routing.specs.RoutesState.{RoutesState}
use Rattle.speaker.proofs.ExceptionCommands.{filter_excepts, holds_excepted}
use Rattle.speaker.proofs.step.Speaker.turn_filter.Goals as goal

pub returns-clause-ok : goal.returns-clause-ok
returns-clause-ok g c = λ config r holds.
    let here = rw (← c.self.view_is) at holds in
    let did = c.in_ok-filter.ensures.ok in
    let so = filter_excepts config r c.self.inside.routes.conf c.args.command.now c.args.prefix c.args.asn c.requires.turns in (
      holds_excepted config r c.args.command.now _ _ so here did.conf refl refl refl (ap (λ (s : RoutesState). s.payloads) did.rest) (ap (λ (s : RoutesState). s.links) did.rest) (ap (λ (s : RoutesState). s.adj_in) did.rest) did.made did.chosen c.chosen-before.ensures,
      sym so.opened,
    )
