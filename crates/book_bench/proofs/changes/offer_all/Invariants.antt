use Rattle.book_bench.specs.Addressed.{IsSound}
use Rattle.book_bench.proofs.changes.offer_all.Given as goal

abbrev pub invariant-loop-slot : goal.invariant-loop-slot
invariant-loop-slot g l = IsSound (g.B.Book.kept l.book)
