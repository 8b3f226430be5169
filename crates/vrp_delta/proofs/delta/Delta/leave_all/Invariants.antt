use Rattle.std.proofs.Common.{◌≡◌, drop}
use Rattle.vrp_delta.specs.Staged.{Rises}
use Rattle.vrp_delta.specs.Steps.{left_all}
use Rattle.vrp_delta.proofs.delta.Delta.leave_all.Given as goal

abbrev pub invariant-loop-payload : goal.invariant-loop-payload
invariant-loop-payload g l = (left_all (drop l.payload-index l.payloads) l.self ≡ left_all l.payloads l.fn.self) × Rises l.self
