-- Which places are remembered.
use Rattle.std.specs.Prelude.{◌≡◌, ◌≢◌, ℕ, ◌+◌, ◌*◌, ◌^◌, ◌/◌, ◌%◌, Option, None, Some, if◌then◌else◌, slice_index_or}
use Rattle.std.specs.Ordering.{is_eq}
use Rattle.net_prefix.specs.PrefixOrder.{prefix_cmp}
use Rattle.net_prefix.specs.declared.prefix.Prefix.{Prefix}
use Rattle.prefix_table.specs.declared.recent.RecentPlace.{RecentPlace}
use Rattle.prefix_table.specs.declared.recent.RecentPlaces.{RecentPlaces}

-- the spot of a prefix
unfoldable pub spot_of : Prefix → ℕ
spot_of p = ((p.bits + p.len) % 2 ^ 32 * 2654435761 % 2 ^ 32) / 2 ^ 22 % 1024

-- what a spot remembers
abbrev pub spot_at : RecentPlaces → ℕ → Option RecentPlace
spot_at recent k = slice_index_or recent.spots k None

-- the place that a spot remembers of a prefix
abbrev pub place_there : Option RecentPlace → Prefix → Option ℕ
place_there None q = None
place_there (Some recent) q = if is_eq (prefix_cmp recent.prefix q) then Some recent.place else None

-- the place that is remembered of a prefix
abbrev pub remembered : RecentPlaces → Prefix → Option ℕ
remembered recent q = place_there (spot_at recent (spot_of q)) q

-- the spot of a prefix remembers this from now on, or nothing, and each other spot what it did
pub record IsSpotSet (old new : RecentPlaces) (prefix : Prefix) (now : Option RecentPlace) : Type 0 where
  pub own : spot_at new (spot_of prefix) ≡ now
  pub others : (k : ℕ) → k ≢ spot_of prefix → spot_at new k ≡ spot_at old k
