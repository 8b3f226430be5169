-- What each peer is sent of Loc-RIB (RFC 4271 sections 3.2 and 9.1.3).
use Rattle.std.specs.Prelude.{◌≡◌, ◌==◌, ◌<◌, ◌^◌, ◌⊎◌, ℕ, List, Option, Some, None, MatchOption, ⊤, if◌then◌else◌}
use Rattle.std.specs.Option.{option_and_then, option_map}
use Rattle.bgp_attr.specs.PathAttributes.{PathAttributes}
use Rattle.bgp_attr.specs.PeerKinds.{kind_between}
use Rattle.bgp_conf.specs.Configuration.{Configuration}
use Rattle.bgp_conf.specs.PeerPolicies.{export_action}
use Rattle.bgp_conf.specs.declared.conf.ConfiguredPeer.{ConfiguredPeer}
use Rattle.decision.specs.declared.candidate.Candidate.{Candidate}
use Rattle.decision.specs.declared.candidate.TheConstants.{LOCAL_SLOT}
use Rattle.export_rules.specs.Export.{AreAccepted, IsComplete, IsSender, export_at}
use Rattle.export_rules.specs.declared.export.ExportPeer.{ExportPeer}
use Rattle.net_prefix.specs.declared.asn.Asn.{Asn}
use Rattle.net_prefix.specs.declared.prefix.Prefix.{Prefix}
use Rattle.policy.specs.PolicyMeaning.{Route}
use Rattle.policy.specs.declared.rule.Action.{Action}
use Rattle.policy.specs.declared.rule.Action.TheVariants.{Reject, Accept}
use Rattle.rib_in.specs.LatestRoutes.{RouteTable, route_at}
use Rattle.routing.specs.Candidates.{origin_in}
use Rattle.routing.specs.LocRib.{IsBest, HasNoCandidate}
use Rattle.routing.specs.Tables.{Tables, best_at}

-- what the export to a slot's peer asks of it
abbrev pub export_peer_of : Configuration → ℕ → ConfiguredPeer → ExportPeer
export_peer_of conf slot peer = record { slot = slot; own = conf.own; asn = peer.asn; local = peer.local }

-- the slot whose peer announced a route of this slot; none of a local network
abbrev pub received_from : ℕ → Option ℕ
received_from slot = if slot == LOCAL_SLOT then None else Some slot

-- the best route of a prefix as export policies see it: as it was received
abbrev pub selected_of : Asn → Prefix → Candidate → PathAttributes → Route
selected_of own prefix c attrs =
    record { prefix = prefix; state = c.validity; origin = origin_in own attrs; path = attrs.as_path; from = received_from c.slot }

-- the octets with which the route goes on to the peer, by what the peer's export policy makes of it; none where it doesn't
abbrev pub exported_at : Configuration → ExportPeer → Prefix → Candidate → PathAttributes → Option (List ℕ)
exported_at conf peer prefix c attrs = export_at c attrs peer (export_action conf peer.slot (selected_of conf.own prefix c attrs))

-- the octets of the attributes with which the best route of a prefix goes on to the peer; none where there is no
-- best route, or it doesn't go on to this peer
abbrev pub IsExport : Tables → ExportPeer → Prefix → Option (List ℕ) → Type 0
IsExport t peer prefix octets =
    ((c : Candidate) × (attrs : PathAttributes) × IsBest t prefix c × (t.routes c.slot prefix ≡ Some attrs) × (octets ≡ exported_at t.conf peer prefix c attrs))
    ⊎ (HasNoCandidate t prefix × (octets ≡ None))

-- the best route of a prefix in the tables that are kept, with its attributes
abbrev pub chosen_in : (Prefix → Option Candidate) → RouteTable → Prefix → Option (Candidate × PathAttributes)
chosen_in loc_rib adj_in prefix = option_and_then (λ c. option_map (λ attrs. (c, attrs)) (route_at adj_in c.slot prefix)) (loc_rib prefix)

-- its export
abbrev pub export_in : Configuration → (Prefix → Option Candidate) → RouteTable → ExportPeer → Prefix → Option (List ℕ)
export_in conf loc_rib adj_in peer prefix =
    option_and_then (λ c. option_and_then (λ attrs. exported_at conf peer prefix c attrs) (route_at adj_in c.slot prefix)) (loc_rib prefix)

-- the peer finds no fault with these octets of attributes, where the best route of the prefix has what every peer needs of it
-- (RFC 4271 section 6.3)
abbrev pub IsAccepted : List (Prefix × Candidate) → RouteTable → ExportPeer → Prefix → List ℕ → Type 0
IsAccepted loc_rib adj_in peer prefix octets =
    IsSender peer
    → ((c : Candidate) (attrs : PathAttributes) → best_at loc_rib prefix ≡ Some c → route_at adj_in c.slot prefix ≡ Some attrs → IsComplete c attrs)
    → AreAccepted (kind_between peer.asn peer.own) octets

-- four octets say the degree of preference that an action sets, if it sets one
abbrev pub SetsDegree : Action → Type 0
SetsDegree Reject = Unit {0}
SetsDegree (Accept degree med prepend) = MatchOption degree ⊤ (λ n. n < 2 ^ 32)
