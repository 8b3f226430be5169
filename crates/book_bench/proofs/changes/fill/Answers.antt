use Rattle.std.proofs.Common.{All, sym, subst}
use Rattle.std.proofs.lemmas.List.Elements.{All-push}
use Rattle.book_bench.specs.Addressed.{IsSound}
use Rattle.book_bench.proofs.changes.fill.Goals as goal

pub loop-prefix-preserved : goal.loop-prefix-preserved
loop-prefix-preserved g c =
    subst (All (λ b. IsSound (g.B.Book.kept b))) (sym c.in_ok-push.ensures.items) (All-push (λ b. IsSound (g.B.Book.kept b)) c.loop-prefix.books.items c.in_ok-book.book c.loop-prefix.invariant c.in_ok-book.ensures)
