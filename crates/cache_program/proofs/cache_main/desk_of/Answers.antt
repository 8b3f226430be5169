use Rattle.std.proofs.Common.{Some, refl}
use Rattle.std.proofs.lemmas.Fn.{gave_at}
use Rattle.cache_program.proofs.cache_main.desk_of.Goals as goal

pub returns-in_ok-open-in-Ok-clause-open : goal.returns-in_ok-open-in-Ok-clause-open
returns-in_ok-open-in-Ok-clause-open g c =
    let given = rw c.as_str-path.ensures.value at (gave_at g.K.FnOnce c.controls.ensures c.in-Ok.is) in
    rw c.in-Some.is (Some c.in-Ok.operators, (c.in-Ok.operators, given, refl), c.in_ok-open-in-Ok.ensures)
