-- The latest route that each slot announced to each prefix, and didn't withdraw since: Adj-RIB-In (RFC 4271
-- section 3.2).
use Rattle.std.specs.Prelude.{ℕ, Bool, List, [], ◌∷◌, Option, Some, None, IsSome}
use Rattle.std.specs.BTreeMap.{is_at}
use Rattle.std.specs.Ordering.{nat_cmp, ordering_then, is_eq}
use Rattle.std.specs.Map.{lookup}
use Rattle.net_prefix.specs.PrefixOrder.{prefix_cmp}
use Rattle.net_prefix.specs.declared.prefix.Prefix.{Prefix}
use Rattle.prefix_trie.specs.TrieMap.{found}
use Rattle.bgp_attr.specs.PathAttributes.{PathAttributes}

-- the routes to one prefix, in rising order of slot
abbrev pub RouteList : Type 0
RouteList = List (ℕ × PathAttributes)

-- the routes to each prefix, in rising order of prefix
abbrev pub RouteTable : Type 0
RouteTable = List (Prefix × RouteList)

-- the attributes of a slot's route among those to one prefix
abbrev pub route_in : RouteList → ℕ → Option PathAttributes
route_in routes slot = lookup (is_at (nat_cmp slot)) routes

-- the same, if there are any to the prefix
abbrev pub route_among : Option RouteList → ℕ → Option PathAttributes
route_among None slot = None
route_among (Some routes) slot = route_in routes slot

-- the attributes of the latest route of a slot to a prefix
abbrev pub route_at : RouteTable → ℕ → Prefix → Option PathAttributes
route_at table slot prefix = route_among (found table prefix) slot

-- whether both name one route: the same prefix and the same slot
abbrev pub is_route : ℕ → Prefix → ℕ → Prefix → Bool
is_route slot prefix s p = is_eq (ordering_then (prefix_cmp prefix p) (nat_cmp slot s))

-- some slot has a route to the prefix
abbrev pub HasRoute : RouteTable → Prefix → Type 0
HasRoute table p = (s : ℕ) × IsSome (route_at table s p)

-- whether both are one prefix
abbrev pub is_prefix : Prefix → Prefix → Bool
is_prefix p q = is_eq (prefix_cmp p q)

-- a prefix with a route's attributes, if there is one, before others
abbrev pub listed : Prefix → Option PathAttributes → List (Prefix × PathAttributes) → List (Prefix × PathAttributes)
listed prefix None rest = rest
listed prefix (Some attrs) rest = (prefix, attrs) ∷ rest

-- each prefix to which the slot has a route, with the route's attributes
abbrev pub routes_of : ℕ → RouteTable → List (Prefix × PathAttributes)
routes_of slot [] = []
routes_of slot (e ∷ table) = listed e.0 (route_in e.1 slot) (routes_of slot table)
