use Rattle.settings_keys.proofs.Faults.{passes_on}
use Rattle.speaker_settings.proofs.Told.{no_asn}
use Rattle.speaker_settings.proofs.settings.asn_of.Goals as goal

pub returns-in_err-number_of : goal.returns-in_err-number_of
returns-in_err-number_of c = passes_on _ _ c.from_residual.result _ c.from_residual.ensures.1 c.in_err-number_of.ensures (no_asn _)
