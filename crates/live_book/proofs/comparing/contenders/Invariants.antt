use Rattle.std.proofs.Common.{◌≡◌, ◌≤◌, length, take}
use Rattle.live_book.specs.NeighborBests.{contenders_of}
use Rattle.live_book.proofs.comparing.contenders.Given as goal

abbrev pub invariant-loop-place : goal.invariant-loop-place
invariant-loop-place l = record {
  items : l.candidates.items ≡ contenders_of l.round (take l.place-index l.places);
  few : length l.candidates.items ≤ l.place-index;
}
