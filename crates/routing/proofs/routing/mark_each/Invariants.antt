use Rattle.routing.specs.RoutingState.{with_waiting}
use Rattle.routing.specs.Sent.{linked}
use Rattle.routing.proofs.Marking.{PeersBelow}
use Rattle.routing.proofs.routing.mark_each.Given as goal

-- the slots so far have their marks
abbrev pub invariant-loop-slot : goal.invariant-loop-slot
invariant-loop-slot g l = PeersBelow l.prefix l.conf (linked l.links.entries l.ribs.sent) (with_waiting l.ribs l.initial.waiting l.initial.alike) l.slot (with_waiting l.ribs l.waiting l.alike)
