use Rattle.rib_rows.proofs.RowSteps.{row_first}
use Rattle.rib_rows.proofs.row.Row.of.Goals as goal

pub invariant_of-result : goal.invariant_of-result
invariant_of-result g c = rw (c.in_ok-book.ensures, c.one-routes.ensures) (row_first c.args.slot c.args.attrs.value)
