use Rattle.std.proofs.Common.{rules}
use Rattle.vrp_csv.proofs.list.fault_of.Goals as goal

pub returns : goal.returns
returns c = search rules
