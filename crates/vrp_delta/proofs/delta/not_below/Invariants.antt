use Rattle.std.proofs.Common.{◌≡◌, drop}
use Rattle.vrp_delta.specs.Walks.{from_payload}
use Rattle.vrp_delta.proofs.delta.not_below.Given as goal

abbrev pub invariant-loop-place : goal.invariant-loop-place
invariant-loop-place l = from_payload l.payload l.list ≡ from_payload l.payload (drop l.place l.list)
