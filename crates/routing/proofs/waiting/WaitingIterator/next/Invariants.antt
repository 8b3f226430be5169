use Rattle.std.proofs.Common.{◌≡◌, length}
use Rattle.decision.specs.BookContents.{rows_of}
use Rattle.routing.specs.Export.{export_in}
use Rattle.routing.specs.Tables.{best_at}
use Rattle.routing.specs.Waiting.{differing}
use Rattle.routing.proofs.waiting.WaitingIterator.next.Given as goal

abbrev pub invariant-loop-prefix : goal.invariant-loop-prefix
invariant-loop-prefix g l =
    (l.self-inside.conf ≡ l.initial.self-inside.conf)
    × (l.self-inside.ribs ≡ l.initial.self-inside.ribs)
    × (l.self-inside.adj_out ≡ l.initial.self-inside.adj_out)
    × (l.self-inside.peer ≡ l.initial.self-inside.peer)
    × (differing l.initial.self-inside.adj_out (export_in l.initial.self-inside.conf.now (best_at (rows_of l.initial.self-inside.ribs.now.book)) l.initial.self-inside.ribs.now.adj_in l.initial.self-inside.peer) l.initial.self-inside.known
    ≡ differing l.initial.self-inside.adj_out (export_in l.initial.self-inside.conf.now (best_at (rows_of l.initial.self-inside.ribs.now.book)) l.initial.self-inside.ribs.now.adj_in l.initial.self-inside.peer) l.self-inside.known)

abbrev pub decreases-loop-prefix : goal.decreases-loop-prefix
decreases-loop-prefix g l = length l.self-inside.known
