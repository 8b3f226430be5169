use Rattle.std.proofs.Common.{◌≡◌, nat_eq, None, take}
use Rattle.std.specs.Map.{lookup}
use Rattle.live_book.specs.NeighborBests.{slots_of}
use Rattle.live_book.proofs.places.place_at.Given as goal

abbrev pub invariant-loop-place : goal.invariant-loop-place
invariant-loop-place l = lookup (nat_eq l.slot) (slots_of (take l.place-index l.places)) ≡ None
