-- A walk along the list of a set, the least first (our own).
use Rattle.std.specs.Prelude.{Bool, false, List, [], ◌∷◌, if◌then◌else◌}
use Rattle.std.specs.Ordering.{is_eq, is_lt}
use Rattle.net_prefix.specs.declared.payload.Vrp.{Vrp}
use Rattle.net_prefix.specs.PayloadOrder.{payload_cmp}

-- the list from its first payload on that isn't below the given one
abbrev pub from_payload : Vrp → List Vrp → List Vrp
from_payload payload [] = []
from_payload payload (first ∷ rest) = if is_lt (payload_cmp first payload) then from_payload payload rest else first ∷ rest

-- whether the list begins with the payload
abbrev pub is_first : Vrp → List Vrp → Bool
is_first payload [] = false
is_first payload (first ∷ rest) = is_eq (payload_cmp first payload)
