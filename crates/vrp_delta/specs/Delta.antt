-- What one set of payloads has and another lacks (RFC 8210 section 8.2). A set is the list of its members, the
-- least first.
use Rattle.std.specs.Prelude.{◌≡◌, ◌&&◌, ◌||◌, Bool, List, Option, Some, None, Result, Err, IfErr, filter, if◌then◌else◌, not}
use Rattle.std.specs.List.{list_any}
use Rattle.net_prefix.specs.declared.payload.Vrp.{Vrp}
use Rattle.net_prefix.specs.PayloadSets.{has}
use Rattle.vrp_delta.specs.declared.fault.DeltaFault.{DeltaFault}
use Rattle.vrp_delta.specs.declared.fault.DeltaFault.TheVariants.{NoMemory, Unknown, Duplicate}

-- the payloads that leave a set, and those that come into it
pub record Change : Type 0 where
  pub withdrawn : List Vrp
  pub announced : List Vrp

-- the payloads of a set that another lacks
abbrev pub lacked : List Vrp → List Vrp → List Vrp
lacked set other = filter (λ payload. not (has other payload)) set

-- old less new leaves, and new less old comes
abbrev pub change_between : List Vrp → List Vrp → Change
change_between old new = record { withdrawn = lacked old new; announced = lacked new old }

-- whether the payload is in what is left of the set
abbrev pub is_left : List Vrp → Change → Vrp → Bool
is_left set change payload = has set payload && not (has change.withdrawn payload)

-- the set that the change leaves: what is left, with what comes
abbrev pub IsApplied : List Vrp → Change → List Vrp → Type 0
IsApplied set change after = (payload : Vrp) → has after payload ≡ (is_left set change payload || has change.announced payload)

-- whether a payload leaves that isn't there (RFC 8210 section 12, code 6)
abbrev pub withdraws_unknown : List Vrp → Change → Bool
withdraws_unknown set change = list_any (λ payload. not (has set payload)) change.withdrawn

-- whether a payload comes that is in what is left (RFC 8210 section 12, code 7)
abbrev pub announces_known : List Vrp → Change → Bool
announces_known set change = list_any (is_left set change) change.announced

-- the first fault of a change for a set
abbrev pub change_fault : List Vrp → Change → Option DeltaFault
change_fault set change =
    if withdraws_unknown set change then Some Unknown else if announces_known set change then Some Duplicate else None

-- a call answers the first fault, and else makes the change or finds no memory for it
abbrev pub IsFirstFault : Option DeltaFault → Result (Unit {0}) DeltaFault → Type 0
IsFirstFault (Some fault) result = result ≡ Err fault
IsFirstFault None result = IfErr result (λ fault. fault ≡ NoMemory)
