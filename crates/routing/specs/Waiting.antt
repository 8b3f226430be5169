-- The prefixes that wait: a peer doesn't hold of them just what is exported to it, or has asked for them again (RFC 4271 sections
-- 3.2 and 9.2, RFC 2918).
use Rattle.std.specs.Prelude.{ℕ, Bool, true, false, not, ◌||◌, List, [], ◌∷◌, Option, Some, None, filter, if◌then◌else◌}
use Rattle.std.specs.Map.{keys_of}
use Rattle.std.specs.Set.{sorted_merge}
use Rattle.std.specs.Str.{bytes_eq}
use Rattle.bgp_conf.specs.Configuration.{Configuration}
use Rattle.bgp_fsm.specs.declared.state.State.{State}
use Rattle.bgp_fsm.specs.StateTests.{is_established}
use Rattle.decision.specs.declared.candidate.Candidate.{Candidate}
use Rattle.export_rules.specs.declared.export.ExportPeer.{ExportPeer}
use Rattle.net_prefix.specs.PrefixOrder.{prefix_cmp}
use Rattle.net_prefix.specs.declared.prefix.Prefix.{Prefix}
use Rattle.rib_out.specs.Held.{HeldRoute, asked_at, held_at}
use Rattle.rib_in.specs.LatestRoutes.{RouteTable}
use Rattle.routing.specs.Export.{export_in}
use Rattle.routing.specs.Linked.{Linked}
use Rattle.routing.specs.Tables.{best_at}

-- both are the same octets, or there are none of both
abbrev pub is_same : Option (List ℕ) → Option (List ℕ) → Bool
is_same None None = true
is_same None (Some octets) = false
is_same (Some octets) None = false
is_same (Some octets) (Some others) = bytes_eq octets others

-- of these prefixes, those of which other octets are held than are exported, or that were asked for again
abbrev pub differing : List (Prefix × HeldRoute) → (Prefix → Option (List ℕ)) → List Prefix → List Prefix
differing held export prefixes = filter (λ prefix. not (is_same (held_at held prefix) (export prefix)) || asked_at held prefix) prefixes

-- the prefixes of Loc-RIB and those that a peer holds, each once
abbrev pub known_prefixes : List (Prefix × Candidate) → List (Prefix × HeldRoute) → List Prefix
known_prefixes loc_rib held = sorted_merge prefix_cmp true (keys_of loc_rib) (keys_of held)

-- a prefix, where there is one, and those behind it
abbrev pub first_of : Option Prefix → List Prefix → List Prefix
first_of None prefixes = []
first_of (Some prefix) prefixes = prefix ∷ prefixes

-- only an Established peer is owed anything
abbrev pub if_established : State → List Prefix → List Prefix
if_established state prefixes = if is_established state then prefixes else []

-- the known prefixes that wait of this slot, as the tables stand
abbrev pub waiting_at : Configuration → List (Prefix × Candidate) → RouteTable → Option ExportPeer → Option Linked → List Prefix
waiting_at conf loc_rib adj_in None found = []
waiting_at conf loc_rib adj_in (Some peer) None = []
waiting_at conf loc_rib adj_in (Some peer) (Some l) =
    if_established l.peer.session.state (differing l.adj_out (export_in conf (best_at loc_rib) adj_in peer) (known_prefixes loc_rib l.adj_out))
