use Rattle.std.proofs.Common.{refl, ap}
use Rattle.bgp_conf.specs.declared.command.Command.TheVariants.{SetPolicy}
use Rattle.routing.specs.RoutesState.{RoutesState}
use Rattle.speaker.proofs.Commands.{holds_resolved, resolved_set}
use Rattle.speaker.proofs.RoutesSeen.{made_of}
use Rattle.speaker.proofs.step.Speaker.set_policy.Goals as goal

pub returns-clause-ok : goal.returns-clause-ok
returns-clause-ok g c = λ config r holds.
    let here = rw (← c.self.view_is) at holds in
    let name = c.requires.sets.0 in
    let rules = c.requires.sets.1 in
    let is = c.requires.sets.3 in
    let conf = rw is at c.in_ok-set_policy.ensures.conf in
    let peers = rw is at c.in_ok-set_policy.ensures.peers in
    let rest = c.in_ok-set_policy.ensures.rest in
    let chosen = c.in_ok-set_policy.ensures.chosen in
    rw is (
      holds_resolved config r (SetPolicy name rules) _ _ (resolved_set config r _ name rules) here conf peers refl refl refl c.set_policy.ensures.payloads (ap (λ (s : RoutesState). s.links) rest) (ap (λ (s : RoutesState). s.adj_in) rest)
          (made_of _ _ _ c.self.inside.routes c.set_policy.new.self rest c.in_ok-set_policy.ensures.made) chosen.0 chosen.1 chosen.2 c.chosen-before.ensures,
      refl,
    )
