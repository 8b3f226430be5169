use Rattle.settings_keys.proofs.Faults.{in_its_place}
use Rattle.speaker_settings.proofs.settings.numbered_timers.Goals as goal

pub returns-in-Err : goal.returns-in-Err
returns-in-Err c = rw c.at.ensures (in_its_place _ _ _ c.in-Err.ensures)
