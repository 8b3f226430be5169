use Rattle.speaker_settings.proofs.Told.{bad_placed}
use Rattle.speaker_settings.proofs.settings.slot_again.Goals as goal

pub returns : goal.returns
returns c = rw c.at.ensures (bad_placed _ _ c.again.ensures)
