-- How much a SLURM file says (own).
use Rattle.std.specs.Prelude.{◌+◌, ◌-◌, ◌^◌, ℕ, List, length, min}
use Rattle.slurm_files.specs.SlurmDocument.{Said}

-- its path, how many filters and assertions it has, and how many entries are skipped
pub record SlurmFigures : Type 0 where
  pub path : List ℕ
  pub filters : ℕ
  pub assertions : ℕ
  pub skipped : ℕ

-- those of a file of this path which says this
abbrev pub figures_of : List ℕ → Said → SlurmFigures
figures_of path said = record { path = path; filters = length said.exceptions.filters; assertions = length said.exceptions.asserted; skipped = min (said.ipv6 + said.bgpsec) (2 ^ 64 - 1) }
