-- The versions that were published in one session, the newest first (RFC 8210 sections 2 and 8.2).
use Rattle.std.specs.Prelude.{◌+◌, ◌%◌, ◌^◌, ◌==◌, ℕ, Bool, false, List, [], ◌∷◌, Option, Some, None, take, if◌then◌else◌}
use Rattle.std.specs.Cmp.Lexicographic.{pointwise}
use Rattle.std.specs.Option.{option_map}
use Rattle.std.specs.Ordering.{eq_by_cmp}
use Rattle.net_prefix.specs.declared.payload.Vrp.{Vrp}
use Rattle.net_prefix.specs.PayloadOrder.{payload_cmp}
use Rattle.vrp_delta.specs.Delta.{Change, change_between}

-- one version: its serial, and the members of its set, the least first
pub record Version : Type 0 where
  pub serial : ℕ
  pub set : List Vrp

-- how many versions are kept: the newest and the 64 before it
abbrev pub kept_versions : ℕ
kept_versions = 65

-- the serial of the newest version, and 0 before the first
abbrev pub newest_serial : List Version → ℕ
newest_serial [] = 0
newest_serial (version ∷ older) = version.serial

-- the serial after a serial
abbrev pub serial_after : ℕ → ℕ
serial_after serial = (serial + 1) % 2 ^ 32

-- whether two sets are one: their members, the least first, are equal
abbrev pub is_same_set : List Vrp → List Vrp → Bool
is_same_set = pointwise (eq_by_cmp payload_cmp)

-- whether a set is that of the newest version
abbrev pub is_newest_set : List Version → List Vrp → Bool
is_newest_set [] set = false
is_newest_set (version ∷ older) set = is_same_set version.set set

-- the version that publishing a set makes
abbrev pub next_version : List Version → List Vrp → Version
next_version versions set = record { serial = serial_after (newest_serial versions); set = set }

-- all versions after a set was published: one more, and none where it is the set of the newest one
abbrev pub published_after : List Version → List Vrp → List Version
published_after versions set = if is_newest_set versions set then versions else next_version versions set ∷ versions

-- all versions that sets make, published one after another; the last one stands first
abbrev pub published : List (List Vrp) → List Version
published [] = []
published (set ∷ before) = published_after (published before) set

-- the kept versions after a set was published
abbrev pub kept_after : List Version → List Vrp → List Version
kept_after kept set = if is_newest_set kept set then kept else take kept_versions (next_version kept set ∷ kept)

-- the version of a serial, the newest where there are several
abbrev pub version_of : List Version → ℕ → Option Version
version_of [] serial = None
version_of (version ∷ older) serial = if version.serial == serial then Some version else version_of older serial

-- what changed from the version of a serial to the newest one, where that version is kept
abbrev pub change_from : List Version → ℕ → Option Change
change_from [] serial = None
change_from (newest ∷ older) serial = option_map (λ old. change_between old.set newest.set) (version_of (newest ∷ older) serial)
