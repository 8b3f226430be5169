use Rattle.vrp_csv.proofs.ReadRows.{of_records}
use Rattle.vrp_csv.proofs.RecordLists.{all_left}
use Rattle.vrp_csv.proofs.list.read_list_at.Goals as goal

pub returns : goal.returns
returns g c = λ text is.
    let fresh = c.from_reader-reader.ensures in
    let left = all_left g.R.Read.remaining c.from_reader-reader.result c.args.reader text fresh.source fresh.state is in
    let (header, rows, whole, is_header, width, after) = c.in-Ok.ensures.header _ left in
    of_records c.args.second _ header rows c.in-Ok.width c.read_rows.result whole is_header width (c.read_rows.ensures rows after)
