use Rattle.loc_rib.proofs.RowTables.{best_each, needed_each, rising_best, routed_each}
use Rattle.rib_rows.specs.Records.{routed}
use Rattle.rib_rows.proofs.RecordTables.{rows_routed}
use Rattle.loc_rib.proofs.ribs.Ribs.is_chosen.Goals as goal

pub returns : goal.returns
returns g c =
    let are = rows_routed c.self.inside.rows.entries c.self.invariant.0 in
    rw (← c.self.view_is) (record {
      best = best_each (routed c.self.inside.rows.entries) are;
      rising = rising_best (routed c.self.inside.rows.entries) are.0;
      needed = needed_each (routed c.self.inside.rows.entries) are;
      routed = routed_each (routed c.self.inside.rows.entries) are;
    })
