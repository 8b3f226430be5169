use Rattle.std.proofs.Common.{ap, not, ◌∙◌}
use Rattle.settings_keys.specs.Keys.{IsAddress}
use Rattle.settings_keys.proofs.Faults.{nothing_if_there, passes_on}
use Rattle.settings_keys.proofs.reading.address_if_told.Goals as goal

pub returns-in_err-address_of : goal.returns-in_err-address_of
returns-in_err-address_of c =
    passes_on _ _ c.from_residual.result _ c.from_residual.ensures.1 c.in_err-address_of.ensures
    (nothing_if_there IsAddress c.value_at.result _ c.value_at.ensures (c.is_none.ensures ∙ ap not c.if-is_none.false))
