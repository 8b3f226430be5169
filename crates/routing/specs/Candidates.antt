-- The routes among which the selection chooses (RFC 4271 section 9.1.2).
use Rattle.std.specs.Prelude.{◌≡◌, ◌≢◌, ◌<◌, ◌↔◌, ◌⊎◌, ◌^◌, ℕ, Bool, List, Option, MatchOption, Some, None, true, false, Contains, unwrap_or}
use Rattle.std.specs.Option.{option_and_then}
use Rattle.bgp_attr.specs.PathAttributes.{PathAttributes}
use Rattle.bgp_attr.specs.AsPath.{PathSegment, has_as, neighbor_as_of, origin_as_of, path_length_of}
use Rattle.bgp_attr.specs.declared.attrs.Origin.TheVariants.{Igp}
use Rattle.bgp_attr.specs.PeerKinds.{kind_between, is_external}
use Rattle.bgp_attr.specs.declared.peer.PeerKind.{PeerKind}
use Rattle.bgp_attr.specs.declared.peer.PeerKind.TheVariants.{External, Internal}
use Rattle.bgp_conf.specs.Configuration.{Configuration, peer_at}
use Rattle.bgp_conf.specs.PeerPolicies.{import_action}
use Rattle.bgp_conf.specs.Reach.{IsCost}
use Rattle.bgp_conf.specs.declared.conf.ConfiguredPeer.{ConfiguredPeer}
use Rattle.bgp_fsm.specs.declared.session.Session.{Session}
use Rattle.decision.specs.declared.candidate.Candidate.{Candidate}
use Rattle.net_prefix.specs.declared.asn.Asn.{Asn}
use Rattle.net_prefix.specs.declared.payload.Vrp.{Vrp}
use Rattle.net_prefix.specs.declared.prefix.Prefix.{Prefix}
use Rattle.origin_valid.specs.Validity.{validity}
use Rattle.origin_valid.specs.declared.validity.Validity.{Validity}
use Rattle.origin_valid.specs.declared.validity.Validity.TheVariants.{NotFound}
use Rattle.decision.specs.declared.candidate.TheConstants.{LOCAL_SLOT}
use Rattle.policy.specs.declared.rule.Action.{Action}
use Rattle.policy.specs.declared.rule.Action.TheVariants.{Reject, Accept}
use Rattle.policy.specs.PolicyMeaning.{Route}
use Rattle.routing.specs.Tables.{Tables}
use Rattle.routing.specs.declared.candidates.Mandatory.{Mandatory}

-- the origin of a route with these attributes, for a speaker of this AS (RFC 6811 section 2)
abbrev pub origin_in : Asn → PathAttributes → Option Asn
origin_in own attrs = option_and_then (λ path. origin_as_of path own) attrs.as_path

-- the state of a route to the prefix with these attributes, in these payloads
abbrev pub state_in : Asn → List Vrp → Prefix → PathAttributes → Validity
state_in own payloads prefix attrs = validity payloads prefix (origin_in own attrs)

-- the degree of preference (RFC 4271 section 9.1.1): 100 of a route of an external peer (own choice), and LOCAL_PREF of that of
-- an internal one
abbrev pub degree_of : PeerKind → PathAttributes → Option ℕ
degree_of (External peer) attrs = Some 100
degree_of Internal attrs = attrs.local_pref

-- these attributes of the route of a slot make this candidate, whatever its state is and the import policy says: the next hop resolves and isn't the
-- session's own address, and the path doesn't hold the own AS
pub record IsCandidateOf (conf : Configuration) (identifier : ℕ) (attrs : PathAttributes) (c : Candidate) : Type 0 where
  pub peer : ConfiguredPeer
  pub path : List PathSegment
  pub next_hop : ℕ
  pub configured : peer_at conf c.slot ≡ Some peer
  pub origin_is : attrs.origin ≡ Some c.origin
  pub path_is : attrs.as_path ≡ Some path
  pub next_hop_is : attrs.next_hop ≡ Some next_hop
  pub without_own_as : has_as path conf.own ≡ false
  pub not_own_address : next_hop ≢ peer.local
  pub resolves : IsCost conf.reach next_hop (Some c.cost)
  pub degree_is : degree_of (kind_between conf.own peer.asn) attrs ≡ Some c.degree
  pub length_is : c.path_length ≡ path_length_of path
  pub neighbor_is : c.neighbor ≡ neighbor_as_of path conf.own
  pub med_is : c.med ≡ attrs.multi_exit_disc
  pub external_is : c.external ≡ is_external (kind_between conf.own peer.asn)
  pub identifier_is : c.identifier ≡ identifier
  pub address_is : c.address ≡ peer.address

-- of a route with these attributes the selection reads this, for a session with this address of its own: the next hop resolves and isn't that
-- address, and the path doesn't hold the own AS
pub record IsFeasible (conf : Configuration) (local : ℕ) (attrs : PathAttributes) (m : Mandatory) : Type 0 where
  pub path : List PathSegment
  pub next_hop : ℕ
  pub origin_is : attrs.origin ≡ Some m.origin
  pub path_is : attrs.as_path ≡ Some path
  pub next_hop_is : attrs.next_hop ≡ Some next_hop
  pub without_own_as : has_as path conf.own ≡ false
  pub not_own_address : next_hop ≢ local
  pub resolves : IsCost conf.reach next_hop (Some m.cost)
  pub length_is : m.path_length ≡ path_length_of path
  pub neighbor_is : m.neighbor ≡ neighbor_as_of path conf.own

-- a local network as a candidate, whatever its state: its degree of preference is greater than that of any peer's route (own
-- choice), so that no step of the selection compares the rest
abbrev pub local_candidate : Asn → Candidate
local_candidate own = record {
  slot = LOCAL_SLOT;
  degree = 2 ^ 32;
  path_length = 0;
  origin = Igp;
  neighbor = own;
  med = None;
  external = false;
  cost = 0;
  identifier = 0;
  address = 0;
  validity = NotFound;
}

-- the candidate with this state
abbrev pub with_state : Validity → Candidate → Candidate
with_state state c = record c { validity = state }

-- the route of a slot's peer to the prefix as policies see it: as it was received
abbrev pub seen_of : Asn → List Vrp → ℕ → Prefix → PathAttributes → Route
seen_of own payloads slot prefix attrs =
    record { prefix = prefix; state = state_in own payloads prefix attrs; origin = origin_in own attrs; path = attrs.as_path; from = Some slot }

-- the degree of preference that a rule leaves: what it sets is that of an external peer's route (RFC 4271 section 9.1.1)
abbrev pub degree_by : Bool → Option ℕ → ℕ → ℕ
degree_by true set degree = unwrap_or set degree
degree_by false set degree = degree

-- what an action makes of a candidate: none, where it rejects
abbrev pub taken : Action → Candidate → Option Candidate
taken Reject c = None
taken (Accept set med prepend) c = Some (record c { degree = degree_by c.external set c.degree })

-- what attributes make of a slot, with the state of a route to the prefix in these payloads, where the import policy of the
-- slot's peer takes it
abbrev pub judged_at : Configuration → List Vrp → PathAttributes → Option Candidate → Prefix → Option Candidate
judged_at conf payloads attrs found prefix =
    option_and_then (λ c. taken (import_action conf c.slot (seen_of conf.own payloads c.slot prefix attrs)) (with_state (state_in conf.own payloads prefix attrs) c)) found

-- the latest route of the candidate's slot to the prefix makes it, with its state in the payloads in force, and the import
-- policy of the slot's peer takes it
pub record IsPeerCandidate (t : Tables) (prefix : Prefix) (c : Candidate) : Type 0 where
  pub session : Session
  pub attrs : PathAttributes
  pub made : Candidate
  pub slot_is : c.slot < 64
  pub session_is : t.sessions c.slot ≡ Some session
  pub route : t.routes c.slot prefix ≡ Some attrs
  pub of_slot : made.slot ≡ c.slot
  pub by_attrs : IsCandidateOf t.conf session.identifier attrs made
  pub judged : judged_at t.conf t.payloads attrs (Some made) prefix ≡ Some c

-- the local network with these attributes as a candidate, with its state; no policy is asked
abbrev pub network_at : Asn → List Vrp → PathAttributes → Prefix → Candidate
network_at own payloads attrs prefix = with_state (state_in own payloads prefix attrs) (local_candidate own)

-- the prefix is a local network, which makes the candidate, with its state in the payloads in force
pub record IsLocalCandidate (t : Tables) (prefix : Prefix) (c : Candidate) : Type 0 where
  pub attrs : PathAttributes
  pub route : t.routes LOCAL_SLOT prefix ≡ Some attrs
  pub made : c ≡ network_at t.conf.own t.payloads attrs prefix

-- a route of a peer, or a local network, is a candidate of the prefix
abbrev pub IsCandidate : Tables → Prefix → Candidate → Type 0
IsCandidate t prefix c = IsPeerCandidate t prefix c ⊎ IsLocalCandidate t prefix c

-- the list has the candidates of the prefix, and nothing else
abbrev pub AreCandidates : Tables → Prefix → List Candidate → Type 0
AreCandidates t prefix cs = (c : Candidate) → Contains cs c ↔ IsCandidate t prefix c

-- these attributes make no candidate of the slot
abbrev pub MakesNone : Configuration → ℕ → ℕ → PathAttributes → Type 0
MakesNone conf slot identifier attrs = (c : Candidate) → c.slot ≡ slot → IsCandidateOf conf identifier attrs c → ⊥

-- what these attributes make of the slot: this candidate, or none
abbrev pub IsMade : Configuration → ℕ → ℕ → PathAttributes → Option Candidate → Type 0
IsMade conf slot identifier attrs found =
    MatchOption found (MakesNone conf slot identifier attrs) (λ c. (c.slot ≡ slot) × IsCandidateOf conf identifier attrs c)

-- the slot's route makes no candidate of the prefix
abbrev pub HasNoneAt : Tables → Prefix → ℕ → Type 0
HasNoneAt t prefix slot = (c : Candidate) → c.slot ≡ slot → IsCandidate t prefix c → ⊥

-- the slot's route makes this candidate of the prefix, and no other one
pub record IsOnlyCandidateAt (t : Tables) (prefix : Prefix) (slot : ℕ) (c : Candidate) : Type 0 where
  pub at_slot : c.slot ≡ slot
  pub is_one : IsCandidate t prefix c
  pub alone : (d : Candidate) → d.slot ≡ slot → IsCandidate t prefix d → d ≡ c
