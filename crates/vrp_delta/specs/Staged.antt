-- A change that is made payload by payload, and the set that it leads to (our own).
use Rattle.std.specs.Prelude.{List, [], ◌∷◌, if◌then◌else◌}
use Rattle.net_prefix.specs.declared.payload.Vrp.{Vrp}
use Rattle.net_prefix.specs.PayloadSets.{IsPayloadSet, has, out, put}
use Rattle.vrp_delta.specs.Delta.{Change, lacked}

-- a set with all of a list
abbrev pub with_all : List Vrp → List Vrp → List Vrp
with_all [] set = set
with_all (payload ∷ more) set = put payload (with_all more set)

-- the payloads of a set that is kept as a change of what it started from
unfoldable pub loaded_from : List Vrp → Change → List Vrp
loaded_from start change = with_all change.announced (lacked start change.withdrawn)

-- a payload comes that the set lacks: it comes back where it had left what the set started from
abbrev pub came : Vrp → Change → Change
came payload load =
    if has load.withdrawn payload then record load { withdrawn = out payload load.withdrawn }
    else record load { announced = put payload load.announced }

-- a payload leaves that the set has: it goes again where it had come
abbrev pub left : Vrp → Change → Change
left payload load =
    if has load.announced payload then record load { announced = out payload load.announced }
    else record load { withdrawn = put payload load.withdrawn }

-- both lists of the change rise
abbrev pub Rises : Change → Type 0
Rises change = IsPayloadSet change.withdrawn × IsPayloadSet change.announced
