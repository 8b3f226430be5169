use Rattle.std.proofs.Common.{◌≡◌, ◌≤◌, replicate, vec_capacity}
use Rattle.rib_out.specs.Waiting.{no_queues}
use Rattle.rib_out.proofs.waiting.all_empty.Given as goal

abbrev pub invariant-loop : goal.invariant-loop
invariant-loop g l = (l.queues.items ≡ replicate l.counter no_queues) × (64 ≤ vec_capacity l.queues)
