use Rattle.std.proofs.Common.{◌≡◌, nat_eq, None, take}
use Rattle.std.specs.Map.{lookup}
use Rattle.decision.proofs.places.place_at.Given as goal

abbrev pub invariant-loop-place : goal.invariant-loop-place
invariant-loop-place l = lookup (nat_eq l.slot) (take l.place-index l.places) ≡ None
