use Rattle.std.proofs.Common.{◌≡◌, ◌++◌, take, drop}
use Rattle.decision.specs.KeptPlaces.{with_changes}
use Rattle.decision.proofs.places.make_each.Given as goal

abbrev pub invariant-loop-place : goal.invariant-loop-place
invariant-loop-place l = l.places ≡ with_changes l.changes (take l.place-index l.initial.places) ++ drop l.place-index l.initial.places
