use Rattle.settings_keys.proofs.Faults.{passes_on}
use Rattle.speaker_settings.proofs.Told.{no_seconds}
use Rattle.speaker_settings.proofs.settings.seconds_of.Goals as goal

pub returns-in_err-number_of-clause-told : goal.returns-in_err-number_of-clause-told
returns-in_err-number_of-clause-told c =
    passes_on _ _ c.from_residual.result _ c.from_residual.ensures.1 c.in_err-number_of.ensures (no_seconds _)
