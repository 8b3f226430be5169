use Rattle.book_bench.specs.Addressed.{IsSound}
use Rattle.book_bench.proofs.drawn_changes.turns.Given as goal

abbrev pub invariant-loop-call : goal.invariant-loop-call
invariant-loop-call g l = record {
  plain : IsSound (g.P.Book.kept l.plain);
  live : IsSound (g.L.Book.kept l.live);
}
