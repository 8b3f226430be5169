use Rattle.std.proofs.Common.{◌≡◌, ◌++◌, map, take, drop}
use Rattle.live_book.specs.NeighborBests.{moved}
use Rattle.live_book.proofs.comparing.move_each.Given as goal

abbrev pub invariant-loop-place : goal.invariant-loop-place
invariant-loop-place l = l.places ≡ map (moved l.changes l.opened) (take l.place-index l.initial.places) ++ drop l.place-index l.initial.places
