use Rattle.std.proofs.Common.{rules}
use Rattle.vrp_csv.proofs.fault.CsvFault.row.Goals as goal

pub returns : goal.returns
returns c = search rules
