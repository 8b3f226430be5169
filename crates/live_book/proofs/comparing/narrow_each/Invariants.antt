use Rattle.std.proofs.Common.{◌≡◌, ◌++◌, map, take, drop}
use Rattle.live_book.specs.NeighborBests.{narrowed}
use Rattle.live_book.proofs.comparing.narrow_each.Given as goal

abbrev pub invariant-loop-place : goal.invariant-loop-place
invariant-loop-place l = l.places ≡ map (narrowed l.neighbor l.best) (take l.place-index l.initial.places) ++ drop l.place-index l.initial.places
