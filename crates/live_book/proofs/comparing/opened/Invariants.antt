use Rattle.std.proofs.Common.{◌≡◌, ◌≤◌, length, take}
use Rattle.live_book.specs.NeighborBests.{opened_of}
use Rattle.live_book.proofs.comparing.opened.Given as goal

abbrev pub invariant-loop-place : goal.invariant-loop-place
invariant-loop-place l = record {
  items : l.neighbors.items ≡ opened_of l.changes (take l.place-index l.places);
  few : length l.neighbors.items ≤ l.place-index;
}
