use Rattle.std.proofs.Common.{List, ap, ◌∙◌}
use Rattle.payload_sources.specs.PayloadSources.{texts_of}
use Rattle.rtr_cache.specs.CacheTable.{Shared}
use Rattle.vrp_delta.specs.Versions.{Version, kept_after}
use Rattle.cache_program.proofs.loading.load_list.Goals as goal

pub returns-clause-first : goal.returns-clause-first
returns-clause-first g c = record {
  sources = texts_of g.L.Read.remaining g.L.Steady.stamp c.in_ok-files.files.list c.in_ok-files.files.slurm c.in_ok-files.files.second;
  given = c.in_ok-files.ensures.given;
  passes = c.in_ok-read.ensures.set;
  says = c.in_ok-read.ensures.written;
  known = c.in_ok-read.ensures.stamps;
  kept_is = ap (λ (s : Shared). s.kept) c.in_ok-serial.ensures.terms ∙ ap (λ (kept : List Version). kept_after kept c.in_ok-read.read.set.keys) c.requires.none;
  serial_is = c.in_ok-serial.ensures.serial;
}
