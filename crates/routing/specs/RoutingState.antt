-- What an input of a session makes of its slot and its routes (RFC 4271 sections 3.2 and 8.2.2).
use Rattle.std.specs.Prelude.{◌≡◌, ℕ, []}
use Rattle.decision.specs.BookContents.{offer_at, BookState}
use Rattle.loc_rib.specs.RibTables.{RibTables}
use Rattle.net_prefix.specs.declared.prefix.Prefix.{Prefix}
use Rattle.rib_in.specs.LatestRoutes.{RouteTable, route_at}
use Rattle.rib_out.specs.Alike.{AlikeState}
use Rattle.rib_out.specs.Waiting.{WaitingState}
use Rattle.loc_rib.specs.SentTables.{SentTable}

-- Adj-RIB-In, the candidates that are kept with Loc-RIB, how often a best route was chosen so far (a count that stays at 2^64 - 1
-- where it has reached it), what each peer holds, what waits for each slot, and what is listed of it by the octets that are written
pub record RoutingState : Type 0 where
  pub adj_in : RouteTable
  pub book : BookState
  pub chosen : ℕ
  pub sent : SentTable
  pub waiting : WaitingState
  pub alike : AlikeState

-- these routes and what is held of them, with this of what waits and of what is listed
abbrev pub with_waiting : RibTables → WaitingState → AlikeState → RoutingState
with_waiting ribs waiting alike = record { adj_in = ribs.adj_in; book = ribs.book; chosen = ribs.chosen; sent = ribs.sent; waiting = waiting; alike = alike }

-- no routes, with this of what is held, of what waits and of what is listed
abbrev pub started : SentTable → WaitingState → AlikeState → RoutingState
started sent waiting alike = record { adj_in = []; book = []; chosen = 0; sent = sent; waiting = waiting; alike = alike }

-- no route and no candidate is another, and no best route was chosen
pub record StayWhole (had has : RouteTable) (before after : BookState) (count now : ℕ) : Type 0 where
  pub routes : (slot : ℕ) (prefix : Prefix) → route_at has slot prefix ≡ route_at had slot prefix
  pub offers : (slot : ℕ) (prefix : Prefix) → offer_at after slot prefix ≡ offer_at before slot prefix
  pub chosen : now ≡ count
