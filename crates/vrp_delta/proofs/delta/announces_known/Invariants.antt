use Rattle.std.proofs.Common.{◌≡◌}
use Rattle.vrp_delta.specs.Delta.{announces_known}
use Rattle.vrp_delta.proofs.delta.announces_known.Given as goal

abbrev pub invariant-loop-payload : goal.invariant-loop-payload
invariant-loop-payload g l =
    (goal.iterator-loop-payload g).can_next l.payload-iterator
    × (goal.iterator-loop-payload g).is_finite l.payload-iterator
    × (announces_known l.set.keys (record { withdrawn = l.delta.withdrawn; announced = l.payload-iterator }) ≡ announces_known l.set.keys l.delta)
