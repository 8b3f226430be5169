use Rattle.settings_keys.proofs.Faults.{passes_on}
use Rattle.speaker_settings.specs.ToldSettings.{IsSeconds}
use Rattle.speaker_settings.proofs.Told.{nothing_or_usual}
use Rattle.speaker_settings.proofs.settings.send_hold_of.Goals as goal

pub returns-in_err-seconds-clause-told : goal.returns-in_err-seconds-clause-told
returns-in_err-seconds-clause-told c =
    passes_on _ _ c.from_residual.result _ c.from_residual.ensures.1 c.in_err-seconds.ensures.told (nothing_or_usual IsSeconds 480 _)
