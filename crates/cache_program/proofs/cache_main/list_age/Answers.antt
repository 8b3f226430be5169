use Rattle.std.proofs.Common.{refl}
use Rattle.cache_program.proofs.cache_main.list_age.Goals as goal

pub returns-in-Withdraw : goal.returns-in-Withdraw
returns-in-Withdraw g c = rw c.in-Withdraw.is (record { shown = c.as_str.result; shows = c.as_str.ensures.value; says = record { met = c.ages.ensures } })
