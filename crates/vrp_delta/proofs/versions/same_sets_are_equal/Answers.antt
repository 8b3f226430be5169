use Rattle.vrp_delta.proofs.Published.{same_set-Decides}
use Rattle.vrp_delta.proofs.versions.same_sets_are_equal.Goals as goal

pub returns : goal.returns
returns c = same_set-Decides
