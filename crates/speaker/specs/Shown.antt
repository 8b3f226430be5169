-- What operators see of the tables.
use Rattle.std.specs.Borrow.{Bor}
use Rattle.std.specs.BTreeSet.{BTreeSet}
use Rattle.std.specs.Prelude.{ℕ, ◌==◌, List, [], ◌∷◌, Option, Some, None, filter, unwrap_or, if◌then◌else◌}
use Rattle.std.specs.Option.{option_map}
use Rattle.std.specs.Ordering.{is_lt}
use Rattle.bgp_fsm.specs.Transports.{transport_of}
use Rattle.bgp_fsm.specs.declared.session.Session.{Session}
use Rattle.decision.specs.declared.candidate.Candidate.{Candidate}
use Rattle.bgp_attr.specs.PathAttributes.{PathAttributes}
use Rattle.decision.specs.declared.candidate.TheConstants.{LOCAL_SLOT}
use Rattle.net_prefix.specs.PayloadOrder.{payload_cmp}
use Rattle.net_prefix.specs.declared.payload.Vrp.{Vrp}
use Rattle.net_prefix.specs.declared.prefix.Prefix.{Prefix}
use Rattle.rib_in.specs.LatestRoutes.{RouteTable, routes_of}
use Rattle.net_prefix.specs.declared.transport.Transport.{Transport}
use Rattle.net_prefix.specs.declared.transport.Transport.TheVariants.{None as NoConnection}
use Rattle.rib_out.specs.Held.{octets_of}
use Rattle.rtr_client.specs.Following.{state_of}
use Rattle.rtr_client.specs.declared.state.ClientState.{ClientState}
use Rattle.rtr_session.specs.SessionHistory.{client}
use Rattle.rtr_session.specs.SessionState.{Session as CacheSession}
use Rattle.routing.specs.Linked.{Linked}
use Rattle.runs.specs.Runs.{Run, cache_history}
use Rattle.runs.specs.declared.config.Config.{Config}
use Rattle.speaker.specs.declared.views.BestRoute.{BestRoute}

-- a row of Loc-RIB
abbrev pub shown_of : Prefix × Candidate → BestRoute
shown_of entry = record { prefix = entry.0; slot = entry.1.slot; validity = entry.1.validity; degree = entry.1.degree }

-- the transport of a session; a slot that isn't there has none
abbrev pub transport_at : Option Session → Transport
transport_at None = NoConnection
transport_at (Some session) = transport_of session

-- what a list shows that may not be there
abbrev pub listed : Option (List (Prefix × List ℕ)) → List (Prefix × List ℕ)
listed None = []
listed (Some held) = held

-- what the peer of a slot holds; nothing where the slot isn't there
abbrev pub held_by : Option Linked → List (Prefix × List ℕ)
held_by None = []
held_by (Some l) = octets_of l.adj_out

-- the routes of a slot's peer; no local network came from one
abbrev pub received_by : ℕ → RouteTable → List (Prefix × PathAttributes)
received_by slot adj_in = if slot == LOCAL_SLOT then [] else routes_of slot adj_in

-- the state of a cache session, where there is one
abbrev pub cache_state_of : Option CacheSession → Option ClientState
cache_state_of cache = option_map (λ session. state_of session.client) cache

-- the same after a run
abbrev pub cache_state_after : Config → Run → Option ClientState
cache_state_after config r = if config.cache then Some (state_of (client config.cache_retry (cache_history r))) else None

-- a transport; where there is no session there is none
abbrev pub transport_or_none : Option Transport → Transport
transport_or_none found = unwrap_or found NoConnection

-- the payloads of a set that may be there
abbrev pub keys_if : Option (Bor (BTreeSet Vrp)) → List Vrp
keys_if None = []
keys_if (Some set) = set.now.keys

-- the first of a list, if it has one
abbrev pub first_of : List Vrp → Option Vrp
first_of [] = None
first_of (payload ∷ payloads) = Some payload

-- the less of two, if there are any; the first of those at one place
abbrev pub least_of : Option Vrp → Option Vrp → Option Vrp
least_of None b = b
least_of (Some a) None = Some a
least_of (Some a) (Some b) = if is_lt (payload_cmp b a) then Some b else Some a

-- the payloads above one, or all
abbrev pub payloads_behind : Option Vrp → List Vrp → List Vrp
payloads_behind None payloads = payloads
payloads_behind (Some last) payloads = filter (λ payload. is_lt (payload_cmp last payload)) payloads
