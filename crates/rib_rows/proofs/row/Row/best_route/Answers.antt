use Rattle.std.proofs.Common.{sym}
use Rattle.rib_rows.proofs.RowSteps.{best_routed, none_there}
use Rattle.rib_in.specs.LatestRoutes.{route_in}
use Rattle.rib_rows.proofs.row.Row.best_route.Goals as goal

pub returns-in_err-attrs-clause-none : goal.returns-in_err-attrs-clause-none
returns-in_err-attrs-clause-none g c =
    absurd
    (none_there (route_in c.self.inside.routes c.in_ok-best.best.slot) (sym c.in_err-attrs.ensures)
    (best_routed (record { routes = c.self.inside.routes; kept = g.B.Book.kept c.self.inside.book }) c.self.invariant c.in_ok-best.best (sym c.in_ok-best.ensures)))
