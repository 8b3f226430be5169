use Rattle.std.proofs.Common.{◌≡◌, ◌↔◌, ℕ, List, [], Option, Some, None, MatchOption, Contains, cond, refl, sym, ap, ◌∙◌, subst}
use Rattle.std.specs.Cmp.{eq_by_cmp_equiv}
use Rattle.std.specs.List.Sorted.{IsStrictlySortedBy}
use Rattle.std.specs.Map.{keys_of, lookup}
use Rattle.std.proofs.lemmas.Map.Keys.{IsDistinct-from_sorted}
use Rattle.std.proofs.lemmas.Map.Views.{Contains-from_lookup, lookup-from_Contains}
use Rattle.bgp_attr.specs.PathAttributes.{PathAttributes}
use Rattle.bgp_conf.specs.Configuration.{peer_at}
use Rattle.bgp_conf.specs.declared.conf.ConfiguredPeer.{ConfiguredPeer}
use Rattle.bgp_peer.specs.SessionInputs as happens
use Rattle.net_prefix.specs.PayloadSets.{IsPayloadSet}
use Rattle.net_prefix.specs.PrefixOrder.{prefix_cmp}
use Rattle.net_prefix.specs.declared.prefix.Prefix.{Prefix}
use Rattle.net_prefix.proofs.PayloadSets.{prefix_cmp_total}
use Rattle.rib_out.proofs.HeldTables.{lookup-octets_of}
use Rattle.rib_out.specs.Held.{is_prefix}
use Rattle.rtr_client.specs.Following.{state_of}
use Rattle.rtr_session.specs.SessionHistory as cached
use Rattle.rtr_session.specs.SessionState.{Session as CacheSession}
use Rattle.runs.specs.AdjRibIn.{route}
use Rattle.decision.specs.declared.candidate.Candidate.{Candidate}
use Rattle.runs.specs.Agreement.{Agrees, CacheAgrees, SlotAgrees, tables_after}
use Rattle.runs.specs.Held.{held}
use Rattle.routing.specs.Linked.{Linked}
use Rattle.runs.specs.Runs.{Run, cache_history, history}
use Rattle.speaker.specs.Shown.{cache_state_after, cache_state_of, held_by}
use Rattle.runs.specs.SpeakerState.{SpeakerState, tables_of}
use Rattle.routing.specs.LocRib.{HasNoCandidate, IsBest, IsLocRib}
use Rattle.routing.specs.Tables.{Tables, best_at, configured_session, link_at, session_at, peer_route_at}
use Rattle.runs.specs.declared.config.Config.{Config}
use Rattle.speaker.proofs.Calls.{slot_route, tables_same}
use Rattle.routes.proofs.OneBest.{best_is_candidate, same_best}
use Rattle.routing.proofs.Places.{same_from_is_prefix}
use Rattle.runs.proofs.SlotStates.{vacant_from}

-- What the views list is what the run has.

held_of_slot : (config : Config) (peer : Option ConfiguredPeer) (found : Option Linked) (routes : Prefix → Option PathAttributes) (h : List happens.Event) (prefix : Prefix)
    → SlotAgrees config peer found routes h → lookup (is_prefix prefix) (held_by found) ≡ held h prefix
held_of_slot config peer None routes h prefix a = rw (a.vacant (vacant_from h (sym a.there))).0 refl
held_of_slot config peer (Some l) routes h prefix a = lookup-octets_of l.adj_out prefix ∙ (a.link l refl).held prefix

pub held_shown : (config : Config) (r : Run) (s : SpeakerState) (slot : ℕ) (prefix : Prefix) → Agrees config r s → lookup (is_prefix prefix) (held_by (link_at s.links slot)) ≡ held (history config slot r) prefix
held_shown config r s slot prefix a = held_of_slot config (peer_at s.conf slot) (link_at s.links slot) (peer_route_at s.adj_in slot) (history config slot r) prefix (a.holds.slots slot)

-- the routes that are kept of a slot are the run's
pub routes_shown : (config : Config) (r : Run) (s : SpeakerState) (slot : ℕ) (prefix : Prefix) (found : Option PathAttributes) → found ≡ peer_route_at s.adj_in slot prefix → Agrees config r s
    → found ≡ route (history config slot r) prefix
routes_shown config r s slot prefix found is a =
    is ∙ sym (slot_route config (peer_at s.conf slot) (link_at s.links slot) (peer_route_at s.adj_in slot) (history config slot r) prefix (a.holds.slots slot))

-- the sessions of a run are those that are kept
pub session_shown : (config : Config) (r : Run) (s : SpeakerState) (slot : ℕ) → Agrees config r s → (tables_after config r).sessions slot ≡ session_at s.links slot
session_shown config r s slot a = ap (λ (t : Tables). t.sessions slot) (tables_same config r s.conf s.payloads (link_at s.links) s.adj_in (sym a.holds.conf) a.holds.payloads a.holds.slots a.holds.networks)

-- the session of a configured slot
pub configured_shown : (config : Config) (r : Run) (s : SpeakerState) (slot : ℕ) → Agrees config r s → configured_session (tables_after config r) slot ≡ configured_session (tables_of s) slot
configured_shown config r s slot a = ap (λ t. configured_session t slot) (tables_same config r s.conf s.payloads (link_at s.links) s.adj_in (sym a.holds.conf) a.holds.payloads a.holds.slots a.holds.networks)

-- a row of Loc-RIB is the best route of its prefix
row_from_best : (t : Tables) (prefix : Prefix) (c : Candidate) (found : Option Candidate) → MatchOption found (HasNoCandidate t prefix) (λ x. IsBest t prefix x) → IsBest t prefix c → found ≡ Some c
row_from_best t prefix c None none best = absurd (none c (best_is_candidate t prefix c best))
row_from_best t prefix c (Some x) is best = ap Some (same_best t prefix x c is best)

best_from_row : (t : Tables) (prefix : Prefix) (c : Candidate) (found : Option Candidate) → MatchOption found (HasNoCandidate t prefix) (λ x. IsBest t prefix x) → found ≡ Some c → IsBest t prefix c
best_from_row t prefix c found is same = let P : Option Candidate → Type 0 = λ x. MatchOption x (HasNoCandidate t prefix) (λ y. IsBest t prefix y) in subst P same is

-- the rows of Loc-RIB are the best routes
pub best_shown : (t : Tables) (routes : List (Prefix × Candidate)) (prefix : Prefix) (c : Candidate) → IsLocRib t routes → Contains routes (prefix, c) ↔ IsBest t prefix c
best_shown t routes prefix c is = (
  λ listed.
      best_from_row t prefix c (best_at routes prefix) (is.best prefix)
      (lookup-from_Contains {eq = is_prefix} (eq_by_cmp_equiv prefix_cmp_total) prefix c routes (IsDistinct-from_sorted prefix_cmp (keys_of routes) is.rising) listed),
  λ best. Contains-from_lookup {eq = is_prefix} same_from_is_prefix prefix c routes (row_from_best t prefix c (best_at routes prefix) (is.best prefix) best),
)

-- ---- the cache session

state_kept : (config : Config) (h : List cached.Event) (found : Option CacheSession) → CacheAgrees config h found → cache_state_of found ≡ cond config.cache (Some (state_of (cached.client config.cache_retry h))) None
state_kept config h None agrees = rw agrees.0 refl
state_kept config h (Some session) agrees = rw agrees.0 (ap (λ c. Some (state_of c)) agrees.1.client)

pub cache_state_shown : (config : Config) (r : Run) (s : SpeakerState) → Agrees config r s → cache_state_of s.cache ≡ cache_state_after config r
cache_state_shown config r s a = state_kept config (cache_history r) s.cache a.holds.cache

-- no payloads are a set
pub nothing_in_force : IsPayloadSet []
unfolding IsStrictlySortedBy
nothing_in_force = tt
