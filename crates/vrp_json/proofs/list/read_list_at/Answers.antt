use Rattle.vrp_json.proofs.Documents.{of_text}
use Rattle.vrp_json.proofs.list.read_list_at.Goals as goal

pub returns : goal.returns
returns c =
    let text = c.in_ok-text.ensures.ok in
    of_text c.args.second c.args.octets.now c.in_ok-text.text.now c.in-Ok.reader c.read_value.result text.0 text.1 text.2 c.in-Ok.ensures.ok c.read_value.ensures
