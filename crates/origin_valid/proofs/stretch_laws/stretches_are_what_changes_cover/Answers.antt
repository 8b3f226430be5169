use Rattle.origin_valid.proofs.StretchLaws.{in-changed}
use Rattle.origin_valid.proofs.stretch_laws.stretches_are_what_changes_cover.Goals as goal

pub returns : goal.returns
returns c = in-changed
