use Rattle.std.proofs.Common.{◌≡◌, ◌||◌}
use Rattle.net_prefix.specs.declared.payload.Vrp.{Vrp}
use Rattle.net_prefix.specs.PayloadSets.{has}
use Rattle.local_exceptions.proofs.exceptions.put_all.Given as goal

abbrev pub invariant-loop-payload : goal.invariant-loop-payload
invariant-loop-payload g l =
    (goal.iterator-loop-payload g).can_next l.payload-iterator
    × (goal.iterator-loop-payload g).is_finite l.payload-iterator
    × ((payload : Vrp) → (has l.set.keys payload || has l.payload-iterator payload) ≡ (has l.initial.set.keys payload || has l.payloads.keys payload))
