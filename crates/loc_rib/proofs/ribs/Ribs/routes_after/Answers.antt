use Rattle.rib_in.proofs.Behind.{rising_slot}
use Rattle.loc_rib.proofs.ribs.Ribs.routes_after.Goals as goal

pub returns-clause-rising : goal.returns-clause-rising
returns-clause-rising g c = rw c.behind.ensures (rising_slot c.args.slot c.args.after c.args.self.now.adj_in c.rises.ensures.rising)
