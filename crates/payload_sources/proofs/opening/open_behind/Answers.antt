use Rattle.std.proofs.Common.{List, ℕ, Bor, option_map, ap, refl}
use Rattle.std.specs.Fn.{FnReturnsAt}
use Rattle.payload_sources.proofs.OpenedFiles.{both}
use Rattle.payload_sources.proofs.opening.open_behind.Goals as goal

pub returns-in-Ok : goal.returns-in-Ok
returns-in-Ok g c =
    both (FnReturnsAt g.F.Fn c.args.opens.now) g.L.Read.remaining g.L.Steady.stamp c.args.second _ c.in-Some.path.now c.args.list c.opens.result c.in-Ok.file (ap (option_map (λ (path : Bor (List ℕ)). path.now)) c.in-Some.is)
    (record { shown = c.in-Some.path; shows = refl; says = record { met = c.opens.ensures } }) c.in-Ok.is
