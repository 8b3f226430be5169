use Rattle.payload_sources.specs.PayloadSources.{texts_of}
use Rattle.cache_program.proofs.Opening.{reread_when_due}
use Rattle.cache_program.proofs.served_list.ServedList.reread_if.Goals as goal

pub returns-then-is_read : goal.returns-then-is_read
returns-then-is_read g c =
    reread_when_due c.open_files-files.result (λ files. texts_of g.L.Read.remaining g.L.Steady.stamp files.list files.slurm files.second) (λ unopened. unopened.file) _ c.args.is_asked c.args.accepts _ c.args.now c.args.age c.args.self.now c.look.result c.look.new.self
    c.if-is_read.true c.open_files-files.ensures.then c.look.ensures
