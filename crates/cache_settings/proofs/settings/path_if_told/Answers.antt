use Rattle.std.proofs.Common.{ap, not, option_map, string_bytes, ◌∙◌}
use Rattle.settings_keys.proofs.Faults.{at_fault, in_memory, nothing_if_there}
use Rattle.settings_keys.specs.Keys.{IsText}
use Rattle.cache_settings.proofs.settings.path_if_told.Goals as goal

pub returns-in_err-path : goal.returns-in_err-path
returns-in_err-path c =
    in_memory _ c.from_residual.result (at_fault _ c.from_residual.result _ c.from_residual.ensures.1 c.in_err-path.ensures.0
    (λ told is. nothing_if_there IsText c.value_at.result _ c.value_at.ensures (c.is_none.ensures ∙ ap not c.if-is_none.false) c.in_err-path.ensures.1 (option_map string_bytes told) is))
