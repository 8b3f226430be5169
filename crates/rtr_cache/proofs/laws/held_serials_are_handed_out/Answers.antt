use Rattle.rtr_cache.proofs.TellingHistories.{held_from_empty}
use Rattle.rtr_cache.proofs.laws.held_serials_are_handed_out.Goals as goal

pub returns : goal.returns
returns c = held_from_empty
