use Rattle.std.proofs.Common.{◌≡◌, take}
use Rattle.decision.specs.KeptPlaces.{with_changes}
use Rattle.decision.proofs.places.are_idle.Given as goal

abbrev pub invariant-loop-place : goal.invariant-loop-place
invariant-loop-place l = with_changes l.changes (take l.place-index l.places) ≡ take l.place-index l.places
