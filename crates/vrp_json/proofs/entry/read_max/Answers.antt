use Rattle.json.specs.Value.{value_view}
use Rattle.vrp_json.proofs.Entries.{none_given}
use Rattle.vrp_json.proofs.entry.read_max.Goals as goal

pub returns-in-None : goal.returns-in-None
returns-in-None c = none_given (value_view c.args.entry.now) c.in-Some.word.now c.in-Some.ensures (rw c.as_bytes.ensures.value at c.in-None.ensures)
