use Rattle.rib_in.proofs.Behind.{rising_after}
use Rattle.loc_rib.proofs.ribs.Ribs.rows_after.Goals as goal

pub returns-clause-rising : goal.returns-clause-rising
returns-clause-rising g c = rw c.behind.ensures (rising_after c.args.after _ c.is_chosen.ensures.rising)
