use Rattle.rtr_cache.proofs.TellingHistories.{told_from_empty}
use Rattle.rtr_cache.proofs.laws.clients_are_told_whole_versions.Goals as goal

pub returns : goal.returns
returns c = told_from_empty
