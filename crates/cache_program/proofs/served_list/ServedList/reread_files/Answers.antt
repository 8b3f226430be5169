use Rattle.std.proofs.Common.{ℕ, subst}
use Rattle.cache_program.specs.Rereads.{Publishes}
use Rattle.cache_program.proofs.Opening.{reread_so}
use Rattle.cache_program.proofs.served_list.ServedList.reread_files.Goals as goal

pub returns-in-Ok : goal.returns-in-Ok
returns-in-Ok g c =
    reread_so c.args.accepts c.args.now c.args.age _ c.args.self.now c.publish.result c.publish.new.self c.in-Ok.read.set.keys c.in-Ok.read.written c.in-Ok.read.stamps (c.in-Ok.read.slurm, c.in-Ok.ensures.0) c.in-Ok.ensures.1 c.in-Ok.ensures.2
    (subst (λ (a : ℕ). Publishes c.args.accepts c.args.now a c.in-Ok.read.set.keys c.args.self.now c.publish.result c.publish.new.self) c.age_told-age.ensures c.publish.ensures.publishes) c.publish.ensures.notes
