use Rattle.std.proofs.Common.{◌≡◌, drop}
use Rattle.vrp_delta.specs.Staged.{Rises}
use Rattle.vrp_delta.specs.Steps.{came_all}
use Rattle.vrp_delta.proofs.delta.Delta.come_all.Given as goal

abbrev pub invariant-loop-payload : goal.invariant-loop-payload
invariant-loop-payload g l = (came_all (drop l.payload-index l.payloads) l.self ≡ came_all l.payloads l.fn.self) × Rises l.self
