use Rattle.cache_program.proofs.Admitting.{shown}
use Rattle.cache_program.proofs.served_list.ServedList.admit.Goals as goal

pub returns-in-Some : goal.returns-in-Some
returns-in-Some g c =
    rw c.in-Some.is
    (shown c.admit_shown.result c.len.result c.in-Some.refused c.args.age c.args.set.now.keys c.args.self.now c.len.ensures.len c.admit_shown.ensures)
