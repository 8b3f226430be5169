use Rattle.std.proofs.Common.{◌≡◌, ◌≤◌, length, take}
use Rattle.decision.specs.KeptPlaces.{candidates_of}
use Rattle.decision.proofs.places.candidates.Given as goal

abbrev pub invariant-loop-place : goal.invariant-loop-place
invariant-loop-place l = record {
  items : l.candidates.items ≡ candidates_of (take l.place-index l.places);
  few : length l.candidates.items ≤ l.place-index;
}
