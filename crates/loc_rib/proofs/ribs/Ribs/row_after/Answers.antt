use Rattle.std.proofs.Common.{slice_get, ap, ◌∙◌}
use Rattle.decision.specs.BookContents.{rows_of}
use Rattle.loc_rib.proofs.RowFinds.{best_from}
use Rattle.loc_rib.proofs.ribs.Ribs.row_after.Goals as goal

pub returns : goal.returns
returns g c = c.first_best.ensures ∙ ap (λ es. slice_get (rows_of es) 0) c.records_after.ensures.book ∙ best_from c.args.after c.args.self.now.book
