use Rattle.std.specs.Net.Grammar.{IsSocketText}
use Rattle.settings_keys.proofs.Faults.{at_fault, nothing_spelled}
use Rattle.settings_keys.proofs.reading.address_of.Goals as goal

pub returns-in_err-text : goal.returns-in_err-text
returns-in_err-text c =
    at_fault _ c.from_residual.result _ c.from_residual.ensures.1 c.in_err-text.ensures.0 (nothing_spelled IsSocketText _ c.in_err-text.ensures.1)
