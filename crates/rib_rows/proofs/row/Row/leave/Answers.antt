use Rattle.std.proofs.Common.{◌≡◌, false}
use Rattle.rib_rows.proofs.RowSteps.{offers_left, routes_left, row_left}
use Rattle.rib_in.specs.PrefixRoutes.{is_only}
use Rattle.rib_rows.proofs.row.Row.leave.Goals as goal

pub invariant_of-self : goal.invariant_of-self
invariant_of-self g c =
    let more : is_only c.args.slot c.self.inside.routes ≡ false = rw (← c.self.view_is) at c.requires in
    row_left c.args.slot (record { routes = c.self.inside.routes; kept = g.B.Book.kept c.self.inside.book }) (record { routes = c.withdraw.new.self; kept = g.B.Book.kept c.leave.new.self }) c.self.invariant
    more (c.withdraw.ensures.left more) c.leave.ensures.places c.leave.ensures.kept

pub returns-clause-routes : goal.returns-clause-routes
returns-clause-routes g c =
    let more : is_only c.args.slot c.self.inside.routes ≡ false = rw (← c.self.view_is) at c.requires in
    rw (← c.self.view_is) (routes_left c.args.slot c.self.inside.routes c.withdraw.new.self (c.withdraw.ensures.left more))

pub returns-clause-offers : goal.returns-clause-offers
returns-clause-offers g c = rw (← c.self.view_is) (offers_left c.args.slot (g.B.Book.kept c.self.inside.book).places (g.B.Book.kept c.leave.new.self).places c.leave.ensures.places)

pub returns-clause-row : goal.returns-clause-row
returns-clause-row g c =
    let more : is_only c.args.slot c.self.inside.routes ≡ false = rw (← c.self.view_is) at c.requires in
    row_left c.args.slot (record { routes = c.self.inside.routes; kept = g.B.Book.kept c.self.inside.book }) (record { routes = c.withdraw.new.self; kept = g.B.Book.kept c.leave.new.self }) c.self.invariant
    more (c.withdraw.ensures.left more) c.leave.ensures.places c.leave.ensures.kept
