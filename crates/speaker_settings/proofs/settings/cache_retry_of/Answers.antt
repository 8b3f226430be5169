use Rattle.settings_keys.proofs.Faults.{passes_on}
use Rattle.speaker_settings.proofs.Told.{no_retry}
use Rattle.speaker_settings.proofs.settings.cache_retry_of.Goals as goal

pub returns-in_err-seconds : goal.returns-in_err-seconds
returns-in_err-seconds c = passes_on _ _ c.from_residual.result _ c.from_residual.ensures.1 c.in_err-seconds.ensures (no_retry _)
