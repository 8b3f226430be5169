use Rattle.std.proofs.Common.{Some, refl, sym, ap, ◌∙◌}
use Rattle.payload_sources.proofs.UnderFile.{alone, refused_behind, refused_list, with_file}
use Rattle.payload_sources.proofs.reading.read_sources.Goals as goal

pub returns-in-None : goal.returns-in-None
returns-in-None g c = (
  record {
    listed = c.in-Ok.listed.loaded.set.keys;
    of_list = λ text is. (c.in-Ok.listed, c.in-Ok.ensures text is, refl);
    under = alone g.L.Read.remaining c.args.sources.slurm c.in-Ok.listed.loaded.set.keys c.in-None.is;
  },
  λ text is. (c.in-Ok.ensures text is).1,
  c.stamps-stamps.ensures,
)

pub returns-in-Ok-read_under : goal.returns-in-Ok-read_under
returns-in-Ok-read_under g c = (
  record {
    listed = c.in-Ok.listed.loaded.set.keys;
    of_list = λ text is. (c.in-Ok.listed, c.in-Ok.ensures text is, refl);
    under = with_file g.L.Read.remaining c.args.sources.slurm _ (Some c.in-Ok-read_under.said) c.in-Ok.listed.loaded.set.keys c.in-Ok-read_under.set.keys (c.in-Some.is ∙ ap (λ file. Some file) (sym c.in-Some.file-is)) c.in-Ok-read_under.ensures;
  },
  λ text is. (c.in-Ok.ensures text is).1,
  c.stamps-stamps.ensures,
)

pub returns-in-Err-read_under : goal.returns-in-Err-read_under
returns-in-Err-read_under g c =
    refused_behind g.L.Read.remaining g.L.Steady.stamp c.args.sources.second c.args.sources.list c.args.sources.slurm _ c.in-Ok.listed.loaded.set.keys c.in-Err-read_under.fault (c.in-Some.is ∙ ap (λ file. Some file) (sym c.in-Some.file-is)) (λ text is. (c.in-Ok.listed, c.in-Ok.ensures text is, refl)) c.in-Err-read_under.ensures

pub returns-in-Err : goal.returns-in-Err
returns-in-Err g c = refused_list g.L.Read.remaining g.L.Steady.stamp c.args.sources.second c.args.sources.list c.args.sources.slurm c.in-Err.fault c.in-Err.ensures
