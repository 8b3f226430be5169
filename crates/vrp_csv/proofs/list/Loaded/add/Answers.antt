use Rattle.std.proofs.Common.{rules}
use Rattle.vrp_csv.proofs.list.Loaded.add.Goals as goal

pub returns-clause-ok : goal.returns-clause-ok
returns-clause-ok c = search rules
