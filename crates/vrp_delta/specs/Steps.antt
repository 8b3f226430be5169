-- The kept versions as the code has them: the newest set, and behind it the steps that led to it (our own).
use Rattle.std.specs.Prelude.{◌≡◌, ◌==◌, ℕ, List, [], ◌∷◌, Option, Some, None, if◌then◌else◌}
use Rattle.std.specs.Option.{option_map}
use Rattle.net_prefix.specs.declared.payload.Vrp.{Vrp}
use Rattle.net_prefix.specs.PayloadSets.{IsPayloadSet}
use Rattle.vrp_delta.specs.Delta.{Change}
use Rattle.vrp_delta.specs.Keeping.{IsChangeOf, no_change}
use Rattle.vrp_delta.specs.Staged.{came, left, loaded_from}
use Rattle.vrp_delta.specs.Versions.{Version}

-- a version that isn't the newest: its serial, and what changed from it to the next one
pub record Step : Type 0 where
  pub serial : ℕ
  pub change : Change

-- the set that a change led from
abbrev pub undone : List Vrp → Change → List Vrp
undone set change = loaded_from set (record { withdrawn = change.announced; announced = change.withdrawn })

-- the versions that these steps led from to the set, the newest first
abbrev pub before : List Vrp → List Step → List Version
before set [] = []
before set (step ∷ older) = record { serial = step.serial; set = undone set step.change } ∷ before (undone set step.change) older

-- all versions that are kept
abbrev pub versions_of : Option Version → List Step → List Version
versions_of None older = []
versions_of (Some newest) older = newest ∷ before newest.set older

-- a change of the set that it led from, and just to this one
pub record IsStep (set : List Vrp) (change : Change) : Type 0 where
  pub rises : IsPayloadSet (undone set change)
  pub fits : IsChangeOf (undone set change) change
  pub leads : loaded_from (undone set change) change ≡ set

abbrev pub AreSteps : List Vrp → List Step → Type 0
AreSteps set [] = Unit {0}
AreSteps set (step ∷ older) = IsStep set step.change × AreSteps (undone set step.change) older

-- so it is of all that is kept
abbrev pub AreKeptSteps : Option Version → List Step → Type 0
AreKeptSteps None older = older ≡ []
AreKeptSteps (Some newest) older = IsPayloadSet newest.set × AreSteps newest.set older

-- payloads leave one after another, and others come
abbrev pub left_all : List Vrp → Change → Change
left_all [] change = change
left_all (payload ∷ more) change = left_all more (left payload change)

abbrev pub came_all : List Vrp → Change → Change
came_all [] change = change
came_all (payload ∷ more) change = came_all more (came payload change)

-- a change, and one behind it, as one
abbrev pub joined : Change → Change → Change
joined later change = came_all later.announced (left_all later.withdrawn change)

-- what changed since the version of a serial, by the steps from it on
abbrev pub since : List Step → ℕ → Option Change
since [] serial = None
since (step ∷ older) serial = if step.serial == serial then Some (joined step.change no_change) else option_map (joined step.change) (since older serial)
