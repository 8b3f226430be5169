use Rattle.std.proofs.Common.{sym, ◌∙◌}
use Rattle.settings_keys.proofs.Faults.{at_fault}
use Rattle.speaker_settings.proofs.Told.{bad_answers, no_identifier, unspelled_identifier, zero_identifier}
use Rattle.speaker_settings.proofs.settings.identifier_of.Goals as goal

pub returns-in_err-text : goal.returns-in_err-text
returns-in_err-text c = at_fault _ c.from_residual.result _ c.from_residual.ensures.1 c.in_err-text.ensures.0 (no_identifier _ c.in_err-text.ensures.1)

pub returns-in_default : goal.returns-in_default
returns-in_default c = bad_answers _ _ c.bad_text.ensures (unspelled_identifier _ c.in_ok-text.text.now c.in_ok-text.ensures c.in_default.ensures.value)

pub returns-in-0 : goal.returns-in-0
returns-in-0 c =
    bad_answers _ _ c.bad_text-in-0.ensures (zero_identifier _ c.in_ok-text.text.now c.in-Ok.address c.in_ok-text.ensures c.in-Ok.ensures.value (sym c.to_bits.ensures ∙ c.in-0.is))
