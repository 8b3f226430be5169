use Rattle.speaker_laws.proofs.KeptAttributes.{what_travels_is_kept}
use Rattle.speaker_laws.proofs.what_may_travel_is_kept.Goals as goal

pub returns : goal.returns
returns c = what_travels_is_kept
