use Rattle.rib_in.proofs.Walks.{found_routes, rising_routes}
use Rattle.loc_rib.proofs.ribs.Ribs.routes_of.Goals as goal

pub returns-clause-rising : goal.returns-clause-rising
returns-clause-rising g c = rw c.behind.ensures (rising_routes c.args.slot c.args.self.now.adj_in c.rises.ensures.rising)

pub returns-clause-found : goal.returns-clause-found
returns-clause-found g c = rw c.behind.ensures (λ p. found_routes c.args.slot p c.args.self.now.adj_in c.rises.ensures.rising)
