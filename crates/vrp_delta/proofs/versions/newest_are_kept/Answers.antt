use Rattle.vrp_delta.proofs.Published.{kept-take}
use Rattle.vrp_delta.proofs.versions.newest_are_kept.Goals as goal

pub returns : goal.returns
returns c = kept-take
