-- The routes with all that they go through, as others see them, and what each call makes of them (RFC 4271 sections 3.2, 8.2.2 and 9).
use Rattle.std.specs.Prelude.{◌≡◌, ◌≤◌, ◌+◌, ◌&&◌, ◌==◌, ℕ, List, [], Option, Some, None, true, false, if◌then◌else◌}
use Rattle.std.specs.Option.{option_and_then}
use Rattle.bgp_attr.specs.PathAttributes.{originated}
use Rattle.bgp_conf.specs.ConfAfter.{conf_after}
use Rattle.bgp_conf.specs.Configuration.{Configuration, peer_at}
use Rattle.bgp_conf.specs.declared.command.Command.{Command}
use Rattle.bgp_fsm.specs.SessionTable.{effects_of}
use Rattle.bgp_fsm.specs.declared.input.Input.{Input}
use Rattle.decision.specs.BookContents.{BookState, offer_at, rows_of}
use Rattle.decision.specs.declared.candidate.TheConstants.{LOCAL_SLOT}
use Rattle.local_exceptions.specs.ExceptionSets.{no_exceptions}
use Rattle.net_prefix.specs.declared.asn.Asn.{Asn}
use Rattle.net_prefix.specs.declared.payload.Vrp.{Vrp}
use Rattle.net_prefix.specs.declared.prefix.Prefix.{Prefix}
use Rattle.origin_valid.specs.Touched.{is_touched}
use Rattle.rib_in.specs.LatestRoutes.{HasRoute, RouteTable, is_route, route_at}
use Rattle.routing.specs.Candidates.{network_at}
use Rattle.routing.specs.Chosen.{Ends, OncePerPrefix}
use Rattle.routing.specs.Export.{export_in, export_peer_of}
use Rattle.routing.specs.Linked.{Linked, moved}
use Rattle.routing.specs.Offers.{AreKept, AreMadeWhere}
use Rattle.routing.specs.Tables.{Tables, best_at, link_at, payloads_under, tables}
use Rattle.routing.specs.Told.{IsTold}

-- what others see of the routes: the configuration, the payloads that are loaded, the slots with their sessions and with
-- what their peers were sent, Adj-RIB-In, the candidates that are kept with Loc-RIB, and how often a best route was chosen so far: a
-- count that stays at 2^64 - 1 where it has reached it. What each peer is owed is where that which it holds and its export differ, or it has asked for it again
pub record RoutesState : Type 0 where
  pub conf : Configuration
  pub payloads : List Vrp
  pub links : List (ℕ × Linked)
  pub adj_in : RouteTable
  pub book : BookState
  pub chosen : ℕ

-- no peers, no payloads and no routes
abbrev pub begun : Asn → RoutesState
begun own = record {
  conf = record { own = own; peers = []; policies = []; networks = []; reach = []; exceptions = no_exceptions };
  payloads = [];
  links = [];
  adj_in = [];
  book = [];
  chosen = 0;
}

-- the same routes, by these payloads
abbrev pub with_payloads : RoutesState → List Vrp → RoutesState
with_payloads s payloads = record s { payloads = payloads }

-- the payloads in force: those that are loaded, under the local exceptions
abbrev pub payloads_in_force : RoutesState → List Vrp
payloads_in_force s = payloads_under s.conf s.payloads

-- what the selection reads
abbrev pub tables_in : RoutesState → Tables
tables_in s = tables s.conf (payloads_in_force s) s.links s.adj_in

-- the export to the peer of a slot; nothing where it isn't configured
abbrev pub export_of : RoutesState → ℕ → Prefix → Option (List ℕ)
export_of s slot prefix = option_and_then (λ peer. export_in s.conf (best_at (rows_of s.book)) s.adj_in (export_peer_of s.conf slot peer) prefix) (peer_at s.conf slot)

-- where the candidates that were kept were those of all routes, they still are
abbrev pub StaysKept : RoutesState → RoutesState → Type 0
StaysKept old new = AreKept (tables_in old) (offer_at old.book) → AreKept (tables_in new) (offer_at new.book)

-- a command of local exceptions was obeyed: the candidates are made again of the routes that payloads concern which came into force
-- or went, and a best route was chosen once at most for each of their prefixes; nothing else changes
pub record ObeysExceptions (command : Command) (old new : RoutesState) : Type 0 where
  pub conf : new.conf ≡ conf_after old.conf command
  pub made : AreMadeWhere (tables_in new) (is_touched (payloads_in_force old) (payloads_in_force new)) (offer_at old.book) (offer_at new.book)
  pub chosen : OncePerPrefix (λ p. (is_touched (payloads_in_force old) (payloads_in_force new) p ≡ true) × HasRoute old.adj_in p) old.chosen new.chosen
  pub rises : old.chosen ≤ new.chosen
  pub rest : new ≡ record old { conf = new.conf; book = new.book; chosen = new.chosen }

-- nothing that others see has changed
pub record StaysAsIs (old new : RoutesState) : Type 0 where
  pub conf : new.conf ≡ old.conf
  pub payloads : new.payloads ≡ old.payloads
  pub links : (slot : ℕ) → link_at new.links slot ≡ link_at old.links slot
  pub routes : (slot : ℕ) (prefix : Prefix) → route_at new.adj_in slot prefix ≡ route_at old.adj_in slot prefix
  pub offers : (slot : ℕ) (prefix : Prefix) → offer_at new.book slot prefix ≡ offer_at old.book slot prefix
  pub rows : rows_of new.book ≡ rows_of old.book
  pub chosen : new.chosen ≡ old.chosen

-- the slot becomes another, and no other slot changes
abbrev pub IsSet : ℕ → Option Linked → RoutesState → RoutesState → Type 0
IsSet slot linked old new = (s : ℕ) → link_at new.links s ≡ (if s == slot then linked else link_at old.links s)

-- the slot's session takes the input at this moment: where it leaves Established its routes and their candidates go, and a best
-- route is chosen again, once at most for each prefix to which it had a route
pub record TakesInput (slot : ℕ) (l : Linked) (now : ℕ) (input : Input) (old new : RoutesState) : Type 0 where
  pub links : IsSet slot (Some (moved now l input)) old new
  pub routes : (s : ℕ) (prefix : Prefix) → route_at new.adj_in s prefix ≡ (if (effects_of input l.peer.session).left && s == slot then None else route_at old.adj_in s prefix)
  pub offers : (s : ℕ) (prefix : Prefix) → offer_at new.book s prefix ≡ (if (effects_of input l.peer.session).left && s == slot then None else offer_at old.book s prefix)
  pub ends : (effects_of input l.peer.session).left ≡ true → Ends slot old.adj_in old.chosen new.chosen
  pub stays : (effects_of input l.peer.session).left ≡ false → new.chosen ≡ old.chosen

-- a local network comes: its route, with the candidate that it makes, and a best route is chosen once at most
pub record BringsNetwork (network : Prefix) (old new : RoutesState) : Type 0 where
  pub routes : (s : ℕ) (p : Prefix) → route_at new.adj_in s p ≡ (if is_route LOCAL_SLOT network s p then Some originated else route_at old.adj_in s p)
  pub offers : (s : ℕ) (p : Prefix) → offer_at new.book s p ≡ (if is_route LOCAL_SLOT network s p then Some (network_at old.conf.own (payloads_in_force old) originated network) else offer_at old.book s p)
  pub payloads : new.payloads ≡ old.payloads
  pub links : new.links ≡ old.links
  pub chosen : (old.chosen ≤ new.chosen) × (new.chosen ≤ old.chosen + 1)

-- the slot's peer is told this of these prefixes, and nothing else changes
pub record TellsSlot (slot : ℕ) (named : List Prefix) (export : Option (List ℕ)) (old new : RoutesState) : Type 0 where
  pub before : Linked
  pub after : Linked
  pub was : link_at old.links slot ≡ Some before
  pub told : IsTold named export before after
  pub puts : IsSet slot (Some after) old new
  pub rest : new ≡ record old { links = new.links }
