use Rattle.std.proofs.Common.{◌≡◌, ◌≤◌, replicate, vec_capacity}
use Rattle.rib_out.specs.Alike.{no_list}
use Rattle.rib_out.proofs.alike.all_empty.Given as goal

abbrev pub invariant-loop : goal.invariant-loop
invariant-loop g l = (l.lists.items ≡ replicate l.counter no_list) × (64 ≤ vec_capacity l.lists)
