-- One row more of a list that is being read.
use Rattle.std.specs.Prelude.{◌≡◌, ◌+◌, Option, None, Some}
use Rattle.net_prefix.specs.PayloadSets.{put}
use Rattle.net_prefix.specs.declared.payload.Vrp.{Vrp}
use Rattle.vrp_csv.specs.declared.list.Loaded.{Loaded}

-- what a row adds: its payload, or one more that is skipped
abbrev pub TakesIn : Option Vrp → Loaded → Loaded → Type 0
TakesIn None old new =
    (new.set.keys ≡ old.set.keys) × (new.rows ≡ old.rows + 1) × (new.skipped ≡ old.skipped + 1)
TakesIn (Some payload) old new =
    (new.set.keys ≡ put payload old.set.keys) × (new.rows ≡ old.rows + 1) × (new.skipped ≡ old.skipped)
