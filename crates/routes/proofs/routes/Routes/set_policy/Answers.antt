use Rattle.std.proofs.Common.{ap}
use Rattle.bgp_conf.proofs.PolicyActions.{is_policy_name-from_accepted}
use Rattle.routing.specs.RoutingState.{RoutingState}
use Rattle.routes.proofs.AddedMarks.{marked_set}
use Rattle.routing.specs.Sent.{linked}
use Rattle.routes.proofs.routes.Routes.set_policy.Goals as goal

pub mark_exporters-requires-clause-marked : goal.mark_exporters-requires-clause-marked
mark_exporters-requires-clause-marked g c =
    let name = c.requires.sets.0 in
    let rules = c.requires.sets.1 in
    let is = c.requires.sets.3 in
    let conf = rw is at c.in_ok-apply.ensures.ok in
    let text = c.requires.sets.2 in
    rw (← text) (marked_set c.self.inside.conf c.apply.new.self (linked c.self.inside.links.entries c.self.inside.routing.sent) c.self.inside.routing name rules conf c.self.invariant.1)

pub mark_exporters-requires-clause-name : goal.mark_exporters-requires-clause-name
mark_exporters-requires-clause-name g c =
    let is = c.requires.sets.3 in
    let text = c.requires.sets.2 in
    let may = rw (← c.self.view_is, is) at c.requires.accepted in
    rw (← text) (is_policy_name-from_accepted c.self.inside.conf may.0 c.requires.sets.0 c.requires.sets.1 may.1)

pub returns-clause-made : goal.returns-clause-made
returns-clause-made g c =
    let rest = c.mark_exporters.ensures.rest in
    let made = rw rest at c.choose_again.ensures.made in
    rw (← c.self.view_is, c.choose_again.ensures.sent, c.choose_again.ensures.routes, ap (λ (t : RoutingState). t.sent) rest, ap (λ (t : RoutingState). t.adj_in) rest) made

pub returns-clause-chosen : goal.returns-clause-chosen
returns-clause-chosen g c =
    let chosen = rw c.mark_exporters.ensures.rest at c.choose_again.ensures.chosen in
    rw (← c.self.view_is) chosen
