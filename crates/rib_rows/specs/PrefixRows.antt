-- A row for each prefix that has a route: its routes by slot, the candidates that they make, and the best of these.
use Rattle.std.specs.Prelude.{ℕ, ◌≡◌, ◌<◌, All, List, ◌∷◌, [], Option, length, map}
use Rattle.std.specs.Map.{values_of}
use Rattle.std.specs.Option.{is_some, option_and_then, option_map}
use Rattle.bgp_attr.specs.PathAttributes.{PathAttributes}
use Rattle.decision.specs.BookContents.{BookState, Kept, candidate_of, is_placed, places_in}
use Rattle.decision.specs.KeptPlaces.{IsKept, alone}
use Rattle.decision.specs.declared.candidate.Candidate.{Candidate}
use Rattle.net_prefix.specs.declared.prefix.Prefix.{Prefix}
use Rattle.prefix_trie.specs.TrieMap.{IsRising}
use Rattle.rib_in.specs.LatestRoutes.{RouteList, RouteTable, route_among, route_in}

-- the routes to a prefix, and the slots that have a place for a candidate with the best one
pub record PrefixRow : Type 0 where
  pub routes : RouteList
  pub kept : Kept

-- the rows by prefix, which rise
abbrev pub RowTable : Type 0
RowTable = List (Prefix × PrefixRow)

-- there is a route, and a place for a candidate just where there is one
pub record IsRow (row : PrefixRow) : Type 0 where
  pub any : 0 < length row.routes
  pub kept : IsKept row.kept
  pub placed : (slot : ℕ) → is_placed row.kept.places slot ≡ is_some (route_in row.routes slot)

-- what holds of the rows
abbrev pub AreRows : RowTable → Type 0
AreRows rows = IsRising rows × All IsRow (values_of rows)

-- a prefix's first route, which makes no candidate yet
abbrev pub first_route : ℕ → PathAttributes → PrefixRow
first_route slot attrs = record { routes = (slot, attrs) ∷ []; kept = alone slot }

-- the routes of all rows
abbrev pub adj_in_of : RowTable → RouteTable
adj_in_of rows = map (λ row. (row.0, row.1.routes)) rows

-- the candidates of all rows, with the best ones
abbrev pub book_of : RowTable → BookState
book_of rows = map (λ row. (row.0, row.1.kept)) rows

-- a slot's route in a row, if there is a row
abbrev pub route_of : Option PrefixRow → ℕ → Option PathAttributes
route_of row slot = route_among (option_map (λ r. r.routes) row) slot

-- a slot's candidate there
abbrev pub offer_of : Option PrefixRow → ℕ → Option Candidate
offer_of row slot = candidate_of (places_in (option_map (λ r. r.kept) row)) slot

-- the best candidate there
abbrev pub best_of : Option PrefixRow → Option Candidate
best_of row = option_and_then (λ r. r.kept.best) row
