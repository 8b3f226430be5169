use Rattle.routes.proofs.OneBest.{same_best, same_loc_rib, same_export}
use Rattle.speaker.proofs.laws.one_export.Goals as goal

pub returns-clause-best : goal.returns-clause-best
returns-clause-best c = same_best

pub returns-clause-loc_rib : goal.returns-clause-loc_rib
returns-clause-loc_rib c = same_loc_rib

pub returns-clause-export : goal.returns-clause-export
returns-clause-export c = same_export
