use Rattle.std.proofs.Common.{ap, subst}
use Rattle.loc_rib.specs.RibTables.{RibTables}
use Rattle.rib_in.specs.LatestRoutes.{RouteTable}
use Rattle.routing.specs.Offers.{IsOffer}
use Rattle.routing.specs.Tables.{payloads_under, tables}
use Rattle.routing.specs.Sent.{linked}
use Rattle.routes.proofs.routes.Routes.candidate_at.Goals as goal

pub returns-in-Some : goal.returns-in-Some
returns-in-Some g c =
    let read = ap (λ (t : RibTables). t.adj_in) c.ribs.ensures in
    rw (← c.self.view_is) (subst (λ (t : RouteTable). IsOffer (tables c.self.inside.conf (payloads_under c.self.inside.conf c.self.inside.payloads) (linked c.self.inside.links.entries c.self.inside.routing.sent) t) c.args.slot c.args.prefix c.in-Some.change.candidate) read (c.in-Some.ensures c.self.inside.routing.sent).offer)
