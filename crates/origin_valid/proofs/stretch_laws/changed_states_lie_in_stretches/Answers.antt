use Rattle.origin_valid.proofs.StretchLaws.{changed-in}
use Rattle.origin_valid.proofs.stretch_laws.changed_states_lie_in_stretches.Goals as goal

pub returns : goal.returns
returns c = changed-in
