use Rattle.loc_rib.proofs.RowTables.{rising_adj_in}
use Rattle.rib_rows.specs.Records.{routed}
use Rattle.rib_rows.proofs.RecordTables.{rows_routed}
use Rattle.loc_rib.proofs.RowFinds.{routed_there}
use Rattle.loc_rib.proofs.ribs.Ribs.rises.Goals as goal

pub returns : goal.returns
returns g c =
    let are = rows_routed c.self.inside.rows.entries c.self.invariant.0 in
    rw (← c.self.view_is) (record { rising = rising_adj_in (routed c.self.inside.rows.entries) are.0; routed = routed_there (routed c.self.inside.rows.entries) are })
