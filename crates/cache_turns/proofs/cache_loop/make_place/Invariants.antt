use Rattle.std.proofs.Common.{◌≡◌, ◌+◌, ◌-◌, ℕ, None, slice_index_or, vec_len}
use Rattle.cache_turns.proofs.cache_loop.make_place.Given as goal

abbrev pub invariant-loop-places : goal.invariant-loop-places
invariant-loop-places g l = (at : ℕ) → slice_index_or l.places.items at None ≡ slice_index_or l.fn.places.items at None

abbrev pub decreases-loop-places : goal.decreases-loop-places
decreases-loop-places g l = (l.place + 1) - vec_len l.places
