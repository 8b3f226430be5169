-- What the selection reads: the configuration, the payloads in force, the sessions and Adj-RIB-In (RFC 4271 section 3.2).
use Rattle.std.specs.Prelude.{ℕ, ◌==◌, List, Option, Some, None, is_some, if◌then◌else◌}
use Rattle.std.specs.Option.{option_map}
use Rattle.std.specs.Map.{lookup}
use Rattle.std.specs.Ordering.{nat_cmp}
use Rattle.std.specs.BTreeMap.{is_at}
use Rattle.bgp_attr.specs.PathAttributes.{PathAttributes, originated}
use Rattle.bgp_conf.specs.Configuration.{Configuration, is_network, peer_at}
use Rattle.bgp_fsm.specs.declared.session.Session.{Session}
use Rattle.decision.specs.declared.candidate.Candidate.{Candidate}
use Rattle.decision.specs.declared.candidate.TheConstants.{LOCAL_SLOT}
use Rattle.local_exceptions.specs.ExceptionSets.{under}
use Rattle.net_prefix.specs.declared.payload.Vrp.{Vrp}
use Rattle.net_prefix.specs.declared.prefix.Prefix.{Prefix}
use Rattle.rib_in.specs.LatestRoutes.{RouteTable, route_at}
use Rattle.net_prefix.specs.PrefixOrder.{prefix_cmp}
use Rattle.routing.specs.Linked.{Linked}

-- the configuration, the payloads in force, the session of each slot that is there, and the latest route of each slot and
-- prefix; what stands under `LOCAL_SLOT` are the local networks
pub record Tables : Type 0 where
  pub conf : Configuration
  pub payloads : List Vrp
  pub sessions : ℕ → Option Session
  pub routes : ℕ → Prefix → Option PathAttributes

-- the attributes of a local network, where the prefix is one
abbrev pub network_route : Configuration → Prefix → Option PathAttributes
network_route conf prefix = if is_network conf prefix then Some originated else None

-- the latest route of a peer's slot, among those of all slots
abbrev pub peer_route_at : RouteTable → ℕ → Prefix → Option PathAttributes
peer_route_at adj_in slot prefix = if slot == LOCAL_SLOT then None else route_at adj_in slot prefix

-- the slot of this number
abbrev pub link_at : List (ℕ × Linked) → ℕ → Option Linked
link_at links slot = lookup (is_at (nat_cmp slot)) links

-- the session of a slot
abbrev pub session_at : List (ℕ × Linked) → ℕ → Option Session
session_at links slot = option_map (λ l. l.peer.session) (link_at links slot)

-- the session of a slot whose peer is configured
abbrev pub configured_session : Tables → ℕ → Option Session
configured_session t slot = if is_some (peer_at t.conf slot) then t.sessions slot else None

-- the best route that is kept of a prefix
abbrev pub best_at : List (Prefix × Candidate) → Prefix → Option Candidate
best_at routes prefix = lookup (is_at (prefix_cmp prefix)) routes

-- the payloads in force where these are loaded: those, under the local exceptions (RFC 8416 section 3)
abbrev pub payloads_under : Configuration → List Vrp → List Vrp
payloads_under conf loaded = under conf.exceptions loaded

-- what the selection reads of these slots
abbrev pub tables : Configuration → List Vrp → List (ℕ × Linked) → RouteTable → Tables
tables conf payloads links adj_in = record {
  conf = conf;
  payloads = payloads;
  sessions = λ slot. session_at links slot;
  routes = λ slot prefix. route_at adj_in slot prefix;
}
