-- The names of the states of a route's origin (RFC 6811 section 2).
use Rattle.std.specs.Prelude.{List, codes, ℕ}
use Rattle.origin_valid.specs.declared.validity.Validity.{Validity}
use Rattle.origin_valid.specs.declared.validity.Validity.TheVariants.{Valid, Invalid, NotFound}

-- the name of a state
abbrev pub name_of : Validity → List ℕ
name_of Valid = codes "Valid"
name_of Invalid = codes "Invalid"
name_of NotFound = codes "NotFound"
