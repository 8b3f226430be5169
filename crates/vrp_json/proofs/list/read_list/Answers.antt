use Rattle.vrp_json.proofs.Documents.{read_at_none}
use Rattle.vrp_json.proofs.list.read_list.Goals as goal

pub returns : goal.returns
returns c = read_at_none c.args.octets.now c.read_list_at.result c.read_list_at.ensures
