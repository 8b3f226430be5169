-- A route's slot, and the routes of higher slots behind it.
use Rattle.std.specs.Prelude.{ℕ, Option, Some, None, Box}
use Rattle.rib_in.specs.LatestRoutes.{RouteList}
use Rattle.rib_in.specs.declared.prefix_routes.Chain.{Chain}
use Rattle.rib_in.specs.declared.prefix_routes.Chain.TheVariants.{Last, Before}

-- the slot
abbrev pub slot_of : {A : Type 0} → Chain A → ℕ
slot_of (Last slot) = slot
slot_of (Before slot routes) = slot

-- the routes of the higher slots
abbrev pub behind : {A : Type 0} → Chain A → Option (Box RouteList A)
behind (Last slot) = None
behind (Before slot routes) = Some routes
