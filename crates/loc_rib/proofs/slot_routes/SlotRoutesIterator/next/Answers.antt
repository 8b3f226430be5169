use Rattle.std.proofs.Common.{◌<◌, length, arith, rules, ap}
use Rattle.prefix_trie.specs.TrieWalks.{all_above, all_after}
use Rattle.rib_in.specs.LatestRoutes.{routes_of}
use Rattle.loc_rib.proofs.slot_routes.SlotRoutesIterator.next.Goals as goal

pub returns-in-Some-clause-steps : goal.returns-in-Some-clause-steps
returns-in-Some-clause-steps g c = rw (c.in-Some.is, ← c.self.view_is) (rw c.in-Some.is at c.route_after-route.ensures)

pub returns-in-Some-clause-goes : goal.returns-in-Some-clause-goes
returns-in-Some-clause-goes g c =
    let routes = routes_of c.self.inside.slot c.self.inside.ribs.now.adj_in in
    let more = rw c.in-Some.is at c.route_after-route.ensures in
    let fewer : length (all_above c.in-Some.prefix routes) < length (all_after c.self.inside.after routes) = omega (arith, ap length more) in
    rw (c.in-Some.is, ← c.self.view_is) (search (rules, fewer))

pub returns-in_default-clause-steps : goal.returns-in_default-clause-steps
returns-in_default-clause-steps g c =
    let none = rw c.in_default.is at c.route_after-route.ensures in
    rw (c.in_default.is, ← c.self.view_is) (none, none)
