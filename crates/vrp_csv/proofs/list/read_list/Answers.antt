use Rattle.vrp_csv.proofs.ReadRows.{read_at_none}
use Rattle.vrp_csv.proofs.list.read_list.Goals as goal

pub returns : goal.returns
returns g c = λ text is. read_at_none _ c.read_list_at.result (c.read_list_at.ensures text is)
