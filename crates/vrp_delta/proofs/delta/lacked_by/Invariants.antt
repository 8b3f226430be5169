use Rattle.std.proofs.Common.{drop}
use Rattle.vrp_delta.specs.Delta.{lacked}
use Rattle.vrp_delta.proofs.Walks.{Walked}
use Rattle.vrp_delta.proofs.delta.lacked_by.Given as goal

abbrev pub invariant-loop-payload : goal.invariant-loop-payload
invariant-loop-payload g l = Walked l.found.keys (drop l.payload-index l.set) l.rest (lacked l.set l.other)
