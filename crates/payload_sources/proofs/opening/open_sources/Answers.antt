use Rattle.std.proofs.Common.{refl}
use Rattle.std.specs.Fn.{FnReturnsAt}
use Rattle.payload_sources.specs.PayloadSources.{texts_of}
use Rattle.payload_sources.proofs.OpenedFiles.{behind}
use Rattle.payload_sources.proofs.opening.open_sources.Goals as goal

pub returns-in-Ok : goal.returns-in-Ok
returns-in-Ok g c =
    behind (FnReturnsAt g.F.Fn c.args.opens.now) g.L.Read.remaining g.L.Steady.stamp c.args.second c.args.csv.now _ c.opens.result c.in-Ok.list c.open_behind.result (λ s. texts_of g.L.Read.remaining g.L.Steady.stamp s.list s.slurm s.second) (λ u. u.file)
    (record { shown = c.args.csv; shows = refl; says = record { met = c.opens.ensures } }) c.in-Ok.is c.open_behind.ensures
