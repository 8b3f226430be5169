use Rattle.std.proofs.Common.{All}
use Rattle.book_bench.specs.Addressed.{IsSound}
use Rattle.book_bench.proofs.changes.change.Given as goal

abbrev pub invariant-loop-turn : goal.invariant-loop-turn
invariant-loop-turn g l = All (λ b. IsSound (g.B.Book.kept b)) l.books.items
