use Rattle.bgp_conf.proofs.Longest.{IsCost-last}
use Rattle.bgp_conf.proofs.conf.Conf.cost.Goals as goal

pub returns-in-Some : goal.returns-in-Some
returns-in-Some g c =
    let rising = rw (← c.self.view_is) at c.reach_rises.ensures in
    let last = IsCost-last c.self.inside.reach c.args.next_hop c.covering.result c.last.result rising c.covering.ensures.left c.last.ensures.ran in
    rw (← c.self.view_is, c.cost.view_is) (rw c.in-Some.is at last)

pub returns-in-None : goal.returns-in-None
returns-in-None g c =
    let rising = rw (← c.self.view_is) at c.reach_rises.ensures in
    let last = IsCost-last c.self.inside.reach c.args.next_hop c.covering.result c.last.result rising c.covering.ensures.left c.last.ensures.ran in
    rw (← c.self.view_is) (rw c.in-None.is at last)
