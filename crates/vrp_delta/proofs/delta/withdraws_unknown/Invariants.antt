use Rattle.std.proofs.Common.{◌≡◌}
use Rattle.vrp_delta.specs.Delta.{withdraws_unknown}
use Rattle.vrp_delta.proofs.delta.withdraws_unknown.Given as goal

abbrev pub invariant-loop-payload : goal.invariant-loop-payload
invariant-loop-payload g l =
    (goal.iterator-loop-payload g).can_next l.payload-iterator
    × (goal.iterator-loop-payload g).is_finite l.payload-iterator
    × (withdraws_unknown l.set.keys (record { withdrawn = l.payload-iterator; announced = l.delta.announced }) ≡ withdraws_unknown l.set.keys l.delta)
