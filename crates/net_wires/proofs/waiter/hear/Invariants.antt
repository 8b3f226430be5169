use Rattle.std.proofs.Common.{◌≡◌, ◌++◌, List, true}
use Rattle.std.specs.List.{All}
use Rattle.std.specs.Slice.Iter.{iter_rest}
use Rattle.mio.specs.Events.{items}
use Rattle.mio.specs.declared.event.event.Event.{Event}
use Rattle.net_wires.specs.Readiness.{AllMayStill, IsHeard}
use Rattle.net_wires.proofs.waiter.hear.Given as goal

abbrev pub invariant-loop-event : goal.invariant-loop-event
invariant-loop-event l =
    AllMayStill l.fn.sockets l.sockets
    × (l.fn.may_accept ≡ true → l.may_accept ≡ true)
    × ((heard : List Event) × (items l.events ≡ heard ++ iter_rest l.event-iterator) × All (IsHeard l.sockets l.may_accept) heard)
