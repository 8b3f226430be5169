use Rattle.std.proofs.Common.{length}
use Rattle.vrp_delta.proofs.versions.«+change_since».Given as goal

abbrev pub decreases-change_since : goal.decreases-change_since
decreases-change_since g c = length c.older.now
