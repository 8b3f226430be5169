use Rattle.std.proofs.Common.{ℕ, ◌+◌, ◌*◌, ◌/◌, ◌%◌, ap}
use Rattle.prefix_table.specs.RecentPlaces.{spot_of}
use Rattle.prefix_table.proofs.recent.spot.Goals as goal

pub returns-clause-is : goal.returns-clause-is
unfolding spot_of
returns-clause-is c = ap (λ (k : ℕ). (c.args.prefix.bits + k) % 4294967296 * 2654435761 % 4294967296 / 4194304 % 1024) c.from.ensures
