use Rattle.vrp_json.proofs.WrittenTold.{of_octets}
use Rattle.vrp_json.proofs.written.read_written.Goals as goal

pub returns : goal.returns
returns c =
    of_octets c.written_at.result c.args.octets.now c.in-Ok.text.now c.in_ok-reader.reader c.in-Ok.ensures.cases.0 c.in_ok-reader.ensures.ok c.written_at.ensures
