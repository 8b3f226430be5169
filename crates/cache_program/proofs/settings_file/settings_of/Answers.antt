use Rattle.std.proofs.Common.{List, ℕ, subst}
use Rattle.settings_keys.specs.Keys.{IsTableOf}
use Rattle.cache_program.proofs.EndedWell.{if_ok_so}
use Rattle.cache_program.proofs.settings_file.settings_of.Goals as goal

pub returns-in-Ok-clause-told : goal.returns-in-Ok-clause-told
returns-in-Ok-clause-told g c =
    if_ok_so c.settings_in.result
    (λ settings told.
    record { octets = (c.in-Ok.octets).items; read = c.in-Ok.ensures; table = told.0; spelled = subst (λ (octets : List ℕ). IsTableOf octets told.0) c.as_slice.ensures.value told.1; told = told.2 }) c.settings_in.ensures.told
