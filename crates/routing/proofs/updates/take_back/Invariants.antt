use Rattle.std.proofs.Common.{◌≡◌, drop}
use Rattle.routing.specs.Brought.{IsPartial}
use Rattle.routing.specs.MarksIn.{AreMarkedIn}
use Rattle.routing.specs.RoutingState.{RoutingState}
use Rattle.routing.proofs.updates.take_back.Given as goal

abbrev pub invariant-loop-announced : goal.invariant-loop-announced
invariant-loop-announced g l =
    ((first : RoutingState) → IsPartial l.slot l.named first l.initial.routing → IsPartial l.slot (drop l.announced-index l.named) first l.routing)
    × AreMarkedIn l.conf l.links.entries l.routing
    × (l.routing.sent ≡ l.initial.routing.sent)
