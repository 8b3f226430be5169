-- What changed since a kept version is what a response to its serial tells.
use Rattle.std.proofs.Common.{◌≡◌, ℕ, List, [], ◌∷◌, ◌++◌, Option, Some, None, IsSome, ap, refl, sym}
use Rattle.std.specs.Option.{option_map}
use Rattle.net_prefix.specs.declared.payload.Vrp.{Vrp}
use Rattle.rtr_cache.specs.CacheTable.{Shared}
use Rattle.rtr_cache.specs.Unsaid.{change_response, kept_response}
use Rattle.rtr_codec.specs.Responses.{response}
use Rattle.vrp_delta.specs.Delta.{Change, change_between}
use Rattle.vrp_delta.specs.Versions.{Version, change_from, newest_serial, version_of}

kept_case : (found : Option Version) (set : List Vrp) (change : Change) → option_map (λ old. change_between old.set set) found ≡ Some change → IsSome found
kept_case None set change is = cc
kept_case (Some old) set change is = refl

-- a version since which a change is known is kept
pub is_kept : (kept : List Version) (serial : ℕ) (change : Change) → change_from kept serial ≡ Some change → IsSome (version_of kept serial)
is_kept [] serial change is = cc
is_kept (newest ∷ older) serial change is = kept_case (version_of (newest ∷ older) serial) newest.set change is

told_case :
    (shared : Shared) (newest : Version) (found : Option Version) (change : Change) → option_map (λ old. change_between old.set newest.set) found ≡ Some change
    → Some (change_response shared.session shared.intervals newest.serial change) ≡ option_map (λ old. response shared.session shared.intervals newest old.set) found
told_case shared newest None change is = cc
told_case shared newest (Some old) change is = ap (λ o. option_map (change_response shared.session shared.intervals newest.serial) o) (sym is)

tells_case :
    (shared : Shared) (kept : List Version) (serial : ℕ) (change : Change) → change_from kept serial ≡ Some change
    → Some (change_response shared.session shared.intervals (newest_serial kept) change) ≡ kept_response shared serial kept
tells_case shared [] serial change is = cc
tells_case shared (newest ∷ older) serial change is = told_case shared newest (version_of (newest ∷ older) serial) change is

-- and the response to its serial tells it
pub tells_change :
    (shared : Shared) (serial : ℕ) (change : Change) → change_from shared.kept serial ≡ Some change
    → Some (change_response shared.session shared.intervals (newest_serial shared.kept) change) ≡ kept_response shared serial shared.kept
tells_change shared serial change is = tells_case shared shared.kept serial change is
