use Rattle.std.proofs.Common.{◌≡◌, length}
use Rattle.prefix_table.specs.Placed.{placed}
use Rattle.prefix_table.proofs.range.RangeIterator.next.Given as goal

abbrev pub invariant-loop-prefix : goal.invariant-loop-prefix
invariant-loop-prefix g l = placed l.self-inside.places l.self-inside.values.now ≡ l.fn.self

abbrev pub decreases-loop-prefix : goal.decreases-loop-prefix
decreases-loop-prefix g l = length l.self-inside.places
