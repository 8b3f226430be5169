-- The routes to one prefix: at least one, of slots that rise.
use Rattle.std.specs.Prelude.{ℕ, ◌≡◌, ◌<◌, ◌==◌, Bool, false, not, [], ◌∷◌, Option, Some, None, Box, filter, length, if◌then◌else◌}
use Rattle.std.specs.BTreeMap.{is_at, insert_entry}
use Rattle.std.specs.List.Sorted.{IsStrictlySortedBy}
use Rattle.std.specs.Map.{keys_of}
use Rattle.std.specs.Ordering.{nat_cmp}
use Rattle.bgp_attr.specs.PathAttributes.{PathAttributes}
use Rattle.rib_in.specs.LatestRoutes.{RouteList, route_in}

-- the slots rise
abbrev pub HasRisingSlots : RouteList → Type 0
HasRisingSlots routes = IsStrictlySortedBy nat_cmp (keys_of routes)

-- the routes of the other slots
abbrev pub others_of : ℕ → RouteList → RouteList
others_of slot routes = filter (λ e. not (is_at (nat_cmp slot) e.0)) routes

-- whether no other slot has a route
abbrev pub is_only : ℕ → RouteList → Bool
is_only slot routes = length (others_of slot routes) == 0

-- whether behind the first route there are others, and all of them are of one slot
abbrev pub is_next_only : ℕ → RouteList → Bool
is_next_only slot [] = false
is_next_only slot (e ∷ es) = if length es == 0 then false else is_only slot es

-- without the route of a slot, where another slot has one
abbrev pub IsLeft : ℕ → RouteList → RouteList → Type 0
IsLeft slot old new = is_only slot old ≡ false → new ≡ others_of slot old

-- the routes with the first of some others, in its place in the order
abbrev pub with_first : RouteList → RouteList → RouteList
with_first routes [] = routes
with_first routes (e ∷ es) = insert_entry nat_cmp routes e.0 e.1

-- the slot's route has these attributes, and the others are as they were
abbrev pub IsAnnounced : ℕ → PathAttributes → RouteList → RouteList → Type 0
IsAnnounced slot attrs old new = (s : ℕ) → route_in new s ≡ (if is_at (nat_cmp slot) s then Some attrs else route_in old s)

-- the routes of the higher slots
abbrev pub higher_of : {A : Type 0} → Option (Box RouteList A) → RouteList
higher_of None = []
higher_of (Some routes) = routes.value

-- there are some, where there is room for them
abbrev pub IsAnyHigher : {A : Type 0} → Option (Box RouteList A) → Type 0
IsAnyHigher None = Unit {0}
IsAnyHigher (Some routes) = 0 < length routes.value

-- what holds of the routes to a prefix
pub record AreRoutes {A : Type 0} (slot : ℕ) (attrs : PathAttributes) (higher : Option (Box RouteList A)) : Type 0 where
  pub any : IsAnyHigher higher
  pub rising : HasRisingSlots ((slot, attrs) ∷ higher_of higher)
