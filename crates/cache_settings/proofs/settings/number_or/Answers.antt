use Rattle.settings_keys.proofs.Faults.{passes_on}
use Rattle.settings_keys.specs.Keys.{IsNumber}
use Rattle.cache_settings.proofs.Told.{nothing_or_usual}
use Rattle.cache_settings.proofs.settings.number_or.Goals as goal

pub returns-in_err-number : goal.returns-in_err-number
returns-in_err-number c =
    passes_on _ _ c.from_residual.result _ c.from_residual.ensures.1 c.in_err-number.ensures (nothing_or_usual IsNumber c.args.usual _)
