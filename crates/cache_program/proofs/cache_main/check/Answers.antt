use Rattle.cache_program.proofs.EndedWell.{on_ok_of}
use Rattle.cache_program.proofs.cache_main.check.Goals as goal

pub returns : goal.returns
returns g c =
    let list = c.in_ok-read.ensures in
    on_ok_of c.map_err.result
    (record { settings = c.in_ok-settings.settings; read = c.in_ok-settings.ensures.told; sources = list.0; given = list.1; set = c.in_ok-read.read.set.keys; passes = list.2 })
