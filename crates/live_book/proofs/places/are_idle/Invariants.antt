use Rattle.std.proofs.Common.{◌≡◌, take}
use Rattle.decision.specs.KeptPlaces.{with_changes}
use Rattle.live_book.specs.NeighborBests.{slots_of}
use Rattle.live_book.proofs.places.are_idle.Given as goal

abbrev pub invariant-loop-place : goal.invariant-loop-place
invariant-loop-place l = with_changes l.changes (slots_of (take l.place-index l.places)) ≡ slots_of (take l.place-index l.places)
