use Rattle.std.proofs.Common.{All}
use Rattle.book_bench.specs.Addressed.{IsSound}
use Rattle.book_bench.proofs.changes.fill.Given as goal

abbrev pub invariant-loop-prefix : goal.invariant-loop-prefix
invariant-loop-prefix g l = All (λ b. IsSound (g.B.Book.kept b)) l.books.items
