use Rattle.std.proofs.Common.{◌≡◌, filter, not}
use Rattle.local_exceptions.specs.Filters.{is_filtered}
use Rattle.speaker.specs.Shown.{first_of, payloads_behind}
use Rattle.speaker.proofs.payloads.first_kept.Given as goal

abbrev pub invariant-loop-payload : goal.invariant-loop-payload
invariant-loop-payload g l =
    (goal.iterator-loop-payload g).can_next l.payload-iterator
    × (goal.iterator-loop-payload g).is_finite l.payload-iterator
    × (first_of (payloads_behind l.fn.after (filter (λ payload. not (is_filtered l.exceptions.filters payload)) l.loaded.keys))
    ≡ first_of (filter (λ payload. not (is_filtered l.exceptions.filters payload)) l.payload-iterator))
