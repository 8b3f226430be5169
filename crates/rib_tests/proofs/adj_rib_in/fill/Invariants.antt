use Rattle.decision.specs.BookContents.{offer_at}
use Rattle.rib_tests.specs.Addressed.{AreAddressed}
use Rattle.rib_tests.proofs.adj_rib_in.fill.Given as goal

abbrev pub invariant-loop-number : goal.invariant-loop-number
invariant-loop-number g l = AreAddressed (offer_at l.table.book)
