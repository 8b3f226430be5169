use Rattle.std.proofs.Common.{◌≡◌, ◌&&◌, ◌||◌}
use Rattle.net_prefix.specs.declared.payload.Vrp.{Vrp}
use Rattle.net_prefix.specs.PayloadSets.{IsPayloadSet, has}
use Rattle.local_exceptions.specs.ExceptionSets.{is_untouched}
use Rattle.local_exceptions.proofs.exceptions.Exceptions.untouched.Given as goal

abbrev pub invariant-loop-payload : goal.invariant-loop-payload
invariant-loop-payload g l =
    (goal.iterator-loop-payload g).can_next l.payload-iterator
    × (goal.iterator-loop-payload g).is_finite l.payload-iterator
    × IsPayloadSet l.found.keys
    × ((payload : Vrp) → (has l.found.keys payload || (has l.payload-iterator payload && is_untouched l.self payload)) ≡ (has l.set.keys payload && is_untouched l.self payload))
