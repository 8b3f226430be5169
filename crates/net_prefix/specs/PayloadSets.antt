-- A set of payloads, seen as the list of its members, the least first.
use Rattle.std.specs.Prelude.{Bool, List, filter, not}
use Rattle.std.specs.BTreeMap.{is_at}
use Rattle.std.specs.BTreeSet.{insert_key}
use Rattle.std.specs.List.{list_any}
use Rattle.std.specs.List.Sorted.{IsStrictlySortedBy}
use Rattle.net_prefix.specs.declared.payload.Vrp.{Vrp}
use Rattle.net_prefix.specs.PayloadOrder.{payload_cmp}

-- the list is that of a set: its payloads rise
abbrev pub IsPayloadSet : List Vrp → Type 0
IsPayloadSet set = IsStrictlySortedBy payload_cmp set

-- whether the set has the payload
abbrev pub has : List Vrp → Vrp → Bool
has set payload = list_any (is_at (payload_cmp payload)) set

-- the set with the payload
abbrev pub put : Vrp → List Vrp → List Vrp
put payload set = insert_key payload_cmp set payload

-- the set without the payload
abbrev pub out : Vrp → List Vrp → List Vrp
out payload set = filter (λ member. not (is_at (payload_cmp payload) member)) set
