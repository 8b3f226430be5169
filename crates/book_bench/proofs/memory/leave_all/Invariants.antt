use Rattle.std.proofs.Common.{All}
use Rattle.book_bench.specs.Addressed.{IsSound}
use Rattle.book_bench.proofs.memory.leave_all.Given as goal

abbrev pub invariant-loop-slot : goal.invariant-loop-slot
invariant-loop-slot g l = All (λ b. IsSound (g.B.Book.kept b)) l.books.items
