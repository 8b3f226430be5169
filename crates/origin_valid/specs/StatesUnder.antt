-- The state of a route's origin by what exceptions make of a set, part by part (own).
use Rattle.std.specs.Prelude.{◌==◌, Bool, ℕ, not}
use Rattle.net_prefix.specs.declared.payload.Vrp.{Vrp}
use Rattle.local_exceptions.specs.ExceptionSets.{ExceptionSets}
use Rattle.local_exceptions.specs.Filters.{is_filtered}
use Rattle.origin_valid.specs.declared.validity.Validity.{Validity}
use Rattle.origin_valid.specs.declared.validity.Validity.TheVariants.{Valid, Invalid, NotFound}

-- the state by the payloads of two sets, from the state by each
abbrev pub both : Validity → Validity → Validity
both Valid other = Valid
both Invalid Valid = Valid
both Invalid Invalid = Invalid
both Invalid NotFound = Invalid
both NotFound other = other

-- whether no filter matches the payload
abbrev pub is_kept : ExceptionSets → Vrp → Bool
is_kept e payload = not (is_filtered e.filters payload)

-- whether the payload's prefix has this length
abbrev pub is_long : ℕ → Vrp → Bool
is_long len payload = payload.prefix.len == len
