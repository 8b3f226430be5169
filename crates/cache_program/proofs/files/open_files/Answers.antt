use Rattle.std.specs.Fn.{FnReturnsAt}
use Rattle.payload_sources.specs.PayloadSources.{texts_of}
use Rattle.cache_program.proofs.SystemFiles.{at_second}
use Rattle.cache_program.proofs.files.open_files.Goals as goal

pub returns-clause-then : goal.returns-clause-then
returns-clause-then g c = rw (c.expiring_at-second.ensures, c.as_str.ensures.value, c.slurm_path.ensures) at c.open_sources.ensures

pub returns-clause-gives : goal.returns-clause-gives
returns-clause-gives g c =
    at_second (FnReturnsAt g.F.Fn c.args.opens.now) g.L.Read.remaining g.L.Steady.stamp c.args.settings.now c.args.second c.open_sources.result (λ files. texts_of g.L.Read.remaining g.L.Steady.stamp files.list files.slurm files.second) (λ unopened. unopened.file)
    (rw (c.expiring_at-second.ensures, c.as_str.ensures.value, c.slurm_path.ensures) at c.open_sources.ensures)
