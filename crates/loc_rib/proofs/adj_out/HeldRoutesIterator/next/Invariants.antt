use Rattle.std.proofs.Common.{◌≡◌, ◌<◌, length}
use Rattle.holdings.specs.Holdings.{octets_by}
use Rattle.prefix_table.specs.Picked.{picked}
use Rattle.loc_rib.proofs.adj_out.HeldRoutesIterator.next.Given as goal

abbrev pub invariant-loop-prefix : goal.invariant-loop-prefix
invariant-loop-prefix g l = record { slot : l.self-inside.slot < 64; rest : picked (λ r. octets_by r.sent l.self-inside.slot) l.self-inside.rest ≡ l.fn.self }

abbrev pub decreases-loop-prefix : goal.decreases-loop-prefix
decreases-loop-prefix g l = length l.self-inside.rest
