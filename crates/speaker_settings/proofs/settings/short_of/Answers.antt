use Rattle.settings_keys.proofs.Faults.{passes_on}
use Rattle.speaker_settings.proofs.Timers.{no_short}
use Rattle.speaker_settings.proofs.settings.short_of.Goals as goal

pub returns-in_err-number : goal.returns-in_err-number
returns-in_err-number c = passes_on _ _ c.from_residual.result _ c.from_residual.ensures.1 c.in_err-number.ensures (no_short _ _)
