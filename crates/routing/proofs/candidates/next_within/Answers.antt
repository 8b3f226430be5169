use Rattle.routing.proofs.Stretching.{first_behind}
use Rattle.routing.proofs.candidates.next_within.Goals as goal

pub returns-in_default : goal.returns-in_default
returns-in_default g c = rw c.in_default.is (first_behind _ c.args.stretch _ c.if-is_routed.ensures c.next_behind.ensures)
