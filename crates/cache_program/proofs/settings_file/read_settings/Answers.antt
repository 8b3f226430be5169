use Rattle.std.proofs.Common.{refl}
use Rattle.cache_program.proofs.EndedWell.{if_ok_so}
use Rattle.cache_program.proofs.settings_file.read_settings.Goals as goal

pub returns-in-Ok-clause-told : goal.returns-in-Ok-clause-told
returns-in-Ok-clause-told g c =
    if_ok_so c.settings_of.result
    (λ settings are. (c.in-Ok.file, record { shown = c.args.path; shows = refl; says = record { met = c.in-Ok.ensures } }, are)) c.settings_of.ensures.told
