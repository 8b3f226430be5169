use Rattle.std.proofs.Common.{sym}
use Rattle.rib_in.proofs.Behind.{route_none, route_some}
use Rattle.loc_rib.proofs.ribs.Ribs.route_after.Goals as goal

pub returns-in_err-prefix : goal.returns-in_err-prefix
returns-in_err-prefix g c = rw c.from_residual.ensures (route_none c.args.slot c.args.after c.args.self.now.adj_in c.rises.ensures.rising c.in_err-prefix.ensures.none)

pub returns-in_err-attrs : goal.returns-in_err-attrs
returns-in_err-attrs g c = absurd (let has = c.in_ok-prefix.ensures.has in let gone = c.in_err-attrs.ensures.route in let never = rw (← gone) at has in cc)

pub returns : goal.returns
returns g c =
    route_some c.args.slot c.args.after c.args.self.now.adj_in c.rises.ensures.rising c.in_ok-prefix.prefix c.in_ok-attrs.attrs.now (sym c.in_ok-attrs.ensures.route)
    c.in_ok-prefix.ensures.above c.in_ok-prefix.ensures.least
