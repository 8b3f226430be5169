use Rattle.std.proofs.Common.{List, ℕ, inl, inr, refl, subst}
use Rattle.settings_keys.specs.Keys.{IsTableOf}
use Rattle.speaker_program.specs.Files.{AreRefusedSettings}
use Rattle.speaker_program.proofs.ServedWords.{if_err_as, if_err_so, if_ok_so}
use Rattle.speaker_program.proofs.settings_file.read_settings.Goals as goal

pub returns-in_err-octets-clause-untold : goal.returns-in_err-octets-clause-untold
returns-in_err-octets-clause-untold g c = if_err_as _ c.from_residual.result c.in_err-octets.field-0.0 c.from_residual.ensures.1 (inl c.in_err-octets.ensures.unread)

pub returns-clause-told : goal.returns-clause-told
returns-clause-told g c =
    if_ok_so c.settings_in.result
    (λ settings told.
    (c.in_ok-octets.octets, told.0, c.in_ok-octets.ensures.given, subst (λ (octets : List ℕ). IsTableOf octets told.0) c.as_slice.ensures.value told.1, told.2)) c.settings_in.ensures.told

pub returns-clause-untold : goal.returns-clause-untold
returns-clause-untold g c =
    if_err_so c.settings_in.result c.settings_in.ensures.refused
    (λ ends is.
    inr (
      (c.in_ok-octets.octets).items,
      is.0,
      (c.in_ok-octets.octets, c.in_ok-octets.ensures.given, refl),
      subst (λ (octets : List ℕ). AreRefusedSettings octets is.0) c.as_slice.ensures.value is.1,
      is.2,
    ))
