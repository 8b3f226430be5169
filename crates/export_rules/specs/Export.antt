-- What a peer is sent of a route (RFC 4271 sections 5.1.2 to 5.1.7 and 9.1.3).
use Rattle.std.specs.Prelude.{◌≡◌, ◌<◌, ◌-◌, ◌^◌, ℕ, suc, ◌==◌, ◌||◌, ◌&&◌, not, min, nat_le, Bool, true, false, if◌then◌else◌, List, [], length, Option, None, Some}
use Rattle.std.specs.Bool.{⊤}
use Rattle.std.specs.Option.{IsSome, MatchOption, option_map}
use Rattle.bgp_attr.specs.AsPath.{prepended}
use Rattle.bgp_attr.specs.AttributeFaults.{attributes_fault, is_host}
use Rattle.bgp_attr.specs.AttributeReading.{attributes_in}
use Rattle.bgp_attr.specs.AttributeSpelling.{AreLawful, attributes_spelling, value_in}
use Rattle.bgp_attr.specs.AttributeTable.{is_taken}
use Rattle.bgp_attr.specs.PathAttributes.{PathAttributes, missing_of}
use Rattle.bgp_attr.specs.UnknownAttributes.{ArePassedOn}
use Rattle.bgp_attr.specs.declared.attribute_type.AttributeType.{AttributeType}
use Rattle.bgp_attr.specs.declared.peer.PeerKind.{PeerKind}
use Rattle.decision.specs.declared.candidate.Candidate.{Candidate}
use Rattle.decision.specs.declared.candidate.TheConstants.{LOCAL_SLOT}
use Rattle.export_rules.specs.declared.export.ExportPeer.{ExportPeer}
use Rattle.policy.specs.declared.rule.Action.{Action}
use Rattle.policy.specs.declared.rule.Action.TheVariants.{Reject, Accept}

-- how often the own AS stands in front of the path: once, and as often more as a rule says (RFC 4271 section 5.1.2)
abbrev pub in_front : Option ℕ → ℕ
in_front None = 1
in_front (Some more) = suc more

-- the attributes as they go on to a peer in another AS: the own AS stands so often in front of the path, and the own address is the
-- next hop; MULTI_EXIT_DISC is what a rule sets, if it does, and LOCAL_PREF does not go on
unfoldable pub exported_of : PathAttributes → ExportPeer → Option ℕ → ℕ → PathAttributes
exported_of attrs peer med times =
    record {
      origin = attrs.origin;
      as_path = option_map (λ path. prepended path peer.own times) attrs.as_path;
      next_hop = Some peer.local;
      multi_exit_disc = med;
      local_pref = None;
      atomic_aggregate = attrs.atomic_aggregate;
      aggregator = attrs.aggregator;
      unknown = attrs.unknown;
    }

-- the route is a local network
abbrev pub is_local : Candidate → Bool
is_local route = route.slot == LOCAL_SLOT

-- NEXT_HOP inside the own AS: as it was received, and of a local network the own address (RFC 4271 section 5.1.3)
abbrev pub next_hop_inside : Candidate → PathAttributes → ExportPeer → Option ℕ
next_hop_inside route attrs peer = if is_local route then Some peer.local else attrs.next_hop

-- MULTI_EXIT_DISC inside the own AS: what a rule sets, and else as it was received (RFC 4271 section 5.1.4)
abbrev pub med_inside : Option ℕ → Option ℕ → Option ℕ
med_inside (Some med) received = Some med
med_inside None received = received

-- LOCAL_PREF: the degree of preference, and of a local network 100 (RFC 4271 section 5.1.5; the 100 is an own choice). Four octets
-- say it, so a greater degree would be the greatest that they say
abbrev pub local_pref_of : Candidate → ℕ
local_pref_of route = if is_local route then 100 else min route.degree (2 ^ 32 - 1)

-- the attributes as they go on to a peer in the own AS: the path as it was received
unfoldable pub passed_inside : Candidate → PathAttributes → ExportPeer → Option ℕ → PathAttributes
passed_inside route attrs peer med =
    record {
      origin = attrs.origin;
      as_path = attrs.as_path;
      next_hop = next_hop_inside route attrs peer;
      multi_exit_disc = med_inside med attrs.multi_exit_disc;
      local_pref = Some (local_pref_of route);
      atomic_aggregate = attrs.atomic_aggregate;
      aggregator = attrs.aggregator;
      unknown = attrs.unknown;
    }

-- the octets of attributes that a message of one prefix holds (RFC 4271 section 4.3)
abbrev pub most_attributes : ℕ
most_attributes = 4068

-- octets of attributes, where a message of one prefix holds them
abbrev pub fitting : List ℕ → Option (List ℕ)
fitting octets = if nat_le (length octets) most_attributes then Some octets else None

-- the peer is in the AS of this side
abbrev pub is_internal : ExportPeer → Bool
is_internal peer = peer.asn.0 == peer.own.0

-- an internal peer announced the route
abbrev pub is_from_inside : Candidate → Bool
is_from_inside route = not (route.external || is_local route)

-- the peer isn't told the route, whatever its policy says: it announced it, or both it and the one that announced it are internal
-- (RFC 4271 section 9.2; the first is an own choice)
abbrev pub is_kept_from : Candidate → ExportPeer → Bool
is_kept_from route peer = route.slot == peer.slot || (is_internal peer && is_from_inside route)

-- the attributes as they go on to the peer, with what a rule of its export policy says
abbrev pub sent_of : Candidate → PathAttributes → ExportPeer → Option ℕ → Option ℕ → PathAttributes
sent_of route attrs peer med prepend = if is_internal peer then passed_inside route attrs peer med else exported_of attrs peer med (in_front prepend)

-- what an action of the peer's export policy makes of the attributes: none, where it rejects
abbrev pub announced_by : Action → Candidate → PathAttributes → ExportPeer → Option (List ℕ)
announced_by Reject route attrs peer = None
announced_by (Accept degree med prepend) route attrs peer = fitting (attributes_spelling (sent_of route attrs peer med prepend))

-- the octets that the peer is sent as the attributes of the route, by this action of its export policy: none where it isn't told it
abbrev pub export_at : Candidate → PathAttributes → ExportPeer → Action → Option (List ℕ)
export_at route attrs peer action = if is_kept_from route peer then None else announced_by action route attrs peer

-- this side's AS is one, and its address a host's
pub record IsSender (peer : ExportPeer) : Type 0 where
  pub own : 0 < peer.own.0
  pub local : is_host peer.local ≡ true

-- MULTI_EXIT_DISC that an action sets
abbrev pub med_set : Action → Option ℕ
med_set Reject = None
med_set (Accept degree med prepend) = med

-- what is said of this side, and what is set, are numbers of four octets
pub record AreNumbers (peer : ExportPeer) (med : Option ℕ) : Type 0 where
  pub own : peer.own.0 < 2 ^ 32
  pub local : peer.local < 2 ^ 32
  pub set : MatchOption med ⊤ (λ n. n < 2 ^ 32)

-- the route has what every peer needs of it: an ORIGIN, a path, and where a peer announced it, a next hop
pub record IsComplete (route : Candidate) (attrs : PathAttributes) : Type 0 where
  pub origin : IsSome attrs.origin
  pub as_path : IsSome attrs.as_path
  pub next_hop : is_local route ≡ false → IsSome attrs.next_hop

-- attributes with which one who hears them from such a peer finds no fault, in so few octets as a message has
pub record AreGood (kind : PeerKind) (sent : PathAttributes) : Type 0 where
  pub lawful : AreLawful kind sent
  pub taken : (known : AttributeType) → is_taken kind known ≡ false → value_in sent known ≡ None
  pub unknown : ArePassedOn sent.unknown
  pub complete : missing_of kind sent ≡ None

-- octets of attributes in which one who hears them from such a peer finds no fault, and lacks none that a route needs
-- (RFC 4271 section 6.3)
pub record AreAccepted (kind : PeerKind) (octets : List ℕ) : Type 0 where
  pub faultless : attributes_fault kind octets ≡ None
  pub complete : missing_of kind (attributes_in kind octets) ≡ None

-- true: these are the octets; false: there are none
abbrev pub Tells : Bool → List ℕ → Option (List ℕ) → Type 0
Tells true octets export = export ≡ Some octets
Tells false octets export = (export ≡ None) × (octets ≡ [])
