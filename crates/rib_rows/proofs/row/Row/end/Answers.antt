use Rattle.std.proofs.Common.{◌≡◌, true, ap, sym, ◌∙◌}
use Rattle.rib_rows.proofs.RowSteps.{ended_best}
use Rattle.rib_rows.specs.PrefixRows.{PrefixRow}
use Rattle.rib_in.specs.PrefixRoutes.{is_only}
use Rattle.rib_rows.proofs.row.Row.end.Goals as goal

pub returns-clause-another : goal.returns-clause-another
returns-clause-another g c = λ another.
    let only : is_only c.args.slot c.self.inside.routes ≡ true = rw (← c.self.view_is) at c.requires in
    let row : PrefixRow = record { routes = c.self.inside.routes; kept = g.B.Book.kept c.self.inside.book } in
    c.leave.ensures.chosen (λ same. another
    (ap (λ (r : PrefixRow). r.kept.best) (sym c.self.view_is) ∙ sym same
    ∙ ended_best c.args.slot row (g.B.Book.kept c.leave.new.self) c.self.invariant only c.leave.ensures.places c.leave.ensures.kept))
