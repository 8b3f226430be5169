use Rattle.std.proofs.Common.{◌≡◌, ◌≢◌, ◌≤◌, inl, inr, ℕ, List, ◌∷◌, Option, Some, None, length, cond, refl, sym, ap, ◌∙◌, subst}
use Rattle.std.specs.Option.{option_map, option_and_then}
use Rattle.std.proofs.lemmas.Bool.{cases_eq, eq-eqb, ne_eqb}
use Rattle.bgp_attr.specs.PathAttributes.{PathAttributes}
use Rattle.bgp_conf.specs.Configuration.{Configuration, peer_at}
use Rattle.bgp_conf.specs.declared.conf.ConfiguredPeer.{ConfiguredPeer}
use Rattle.bgp_peer.specs.SessionInputs as happens
use Rattle.bgp_peer.specs.SessionInputs.{session}
use Rattle.net_prefix.specs.declared.payload.Vrp.{Vrp}
use Rattle.net_prefix.specs.declared.prefix.Prefix.{Prefix}
use Rattle.rib_in.specs.LatestRoutes.{RouteTable, route_at}
use Rattle.runs.specs.AdjRibIn.{route}
use Rattle.runs.specs.Agreement.{SlotAgrees, tables_after, route_under}
use Rattle.routing.specs.Export.{export_in, export_peer_of}
use Rattle.speaker.specs.Export.{export_to}
use Rattle.routing.specs.Linked.{Linked}
use Rattle.runs.specs.Queueing.{Queue, Service}
use Rattle.runs.specs.Runs.{Call, Run, turn, configuration_of, history, loaded_after, served_by}
use Rattle.runs.specs.SpeakerState.{SpeakerState}
use Rattle.routing.specs.Tables.{Tables, best_at, network_route, payloads_under, peer_route_at}
use Rattle.runs.specs.declared.config.Config.{Config}
use Rattle.runs.proofs.SlotStates.{slot_session}
use Rattle.runs.proofs.PeerRoutes.{peers_same}
use Rattle.routing.proofs.Exported.{best_short}

-- From the slots to the whole: what the selection reads, what is exported, and what a call queues.

-- the slots of a speaker are as these histories leave them
abbrev pub SlotsAgree : Config → Configuration → (ℕ → Option Linked) → RouteTable → (ℕ → List happens.Event) → Type 0
SlotsAgree config conf links adj_in histories = (s : ℕ) → SlotAgrees config (peer_at conf s) (links s) (peer_route_at adj_in s) (histories s)

-- one slot changes
pub slots_changed : (config : Config) (conf conf2 : Configuration) (links links2 : ℕ → Option Linked) (adj_in adj_in2 : RouteTable) (hs hs2 : ℕ → List happens.Event) (slot : ℕ)
    → SlotsAgree config conf links adj_in hs
    → ((t : ℕ) → t ≢ slot → peer_at conf2 t ≡ peer_at conf t) → ((t : ℕ) → t ≢ slot → links2 t ≡ links t)
    → ((t : ℕ) → t ≢ slot → (p : Prefix) → route_at adj_in2 t p ≡ route_at adj_in t p) → ((t : ℕ) → t ≢ slot → hs2 t ≡ hs t)
    → SlotAgrees config (peer_at conf2 slot) (links2 slot) (peer_route_at adj_in2 slot) (hs2 slot) → SlotsAgree config conf2 links2 adj_in2 hs2
slots_changed config conf conf2 links links2 adj_in adj_in2 hs hs2 slot all peers others routes histories here t =
    elim (cases_eq t slot) [
      | inl same ↦
          let P : ℕ → Type 0 = λ s. SlotAgrees config (peer_at conf2 s) (links2 s) (peer_route_at adj_in2 s) (hs2 s) in
          subst P (sym same) here
      | inr other ↦
          let P : Option ConfiguredPeer → Type 0 = λ x. SlotAgrees config x (links2 t) (peer_route_at adj_in2 t) (hs2 t) in
          let L : Option Linked → Type 0 = λ x. SlotAgrees config (peer_at conf t) x (peer_route_at adj_in2 t) (hs2 t) in
          let R : (Prefix → Option PathAttributes) → Type 0 = λ x. SlotAgrees config (peer_at conf t) (links t) x (hs2 t) in
          let H : List happens.Event → Type 0 = λ x. SlotAgrees config (peer_at conf t) (links t) (peer_route_at adj_in t) x in
          subst P (sym (peers t other)) (subst L (sym (others t other)) (subst R (λ i p. sym (peers_same adj_in adj_in2 t (routes t other) p) i) (subst H (sym (histories t other)) (all t))))
    ]

-- what the selection reads of these slots
abbrev pub tables_in : Configuration → List Vrp → (ℕ → Option Linked) → RouteTable → Tables
tables_in conf payloads links adj_in = record { conf = conf; payloads = payloads; sessions = λ s. option_map (λ l. l.peer.session) (links s); routes = λ s prefix. route_at adj_in s prefix }

pub slot_route : (config : Config) (peer : Option ConfiguredPeer) (l : Option Linked) (routes : Prefix → Option PathAttributes) (h : List happens.Event) (p : Prefix) → SlotAgrees config peer l routes h
    → route h p ≡ routes p
slot_route config peer l routes h p a = sym (a.routes_are p)

-- the run's tables are those that are kept, where these payloads are loaded
pub tables_same : (config : Config) (r : Run) (conf : Configuration) (payloads : List Vrp) (links : ℕ → Option Linked) (adj_in : RouteTable) → configuration_of config r ≡ conf → payloads ≡ loaded_after config r
    → SlotsAgree config conf links adj_in (λ s. history config s r) → ((prefix : Prefix) → route_at adj_in 64 prefix ≡ network_route conf prefix) → tables_after config r ≡ tables_in conf (payloads_under conf payloads) links adj_in
tables_same config r conf payloads links adj_in same none all networks = λ i. record {
  conf = same i;
  payloads = payloads_under (same i) (sym none i);
  sessions = λ s. slot_session config (peer_at conf s) (links s) (peer_route_at adj_in s) (history config s r) (all s) i;
  routes = λ s prefix. under s prefix i;
}
  where
    under : (s : ℕ) (prefix : Prefix) → route_under (configuration_of config r) (λ t. history config t r) s prefix ≡ route_at adj_in s prefix
    under s prefix = elim (cases_eq s 64) [
      | inl local ↦ rw (eq-eqb s 64 local) (ap (λ c. network_route c prefix) same ∙ sym (networks prefix) ∙ ap (λ x. route_at adj_in x prefix) (sym local))
      | inr other ↦
          rw (ne_eqb s 64 other)
          (slot_route config (peer_at conf s) (links s) (peer_route_at adj_in s) (history config s r) prefix (all s) ∙ ap (λ b. cond b None (route_at adj_in s prefix)) (ne_eqb s 64 other))
    ]

peer_short : (s : SpeakerState) (t : ℕ) (found : Option ConfiguredPeer) (prefix : Prefix) (a : List ℕ)
    → option_and_then (λ p. export_in s.conf (best_at s.loc_rib) s.adj_in (export_peer_of s.conf t p) prefix) found ≡ Some a → length a ≤ 4068
peer_short s t None prefix a is = absurd (cc)
peer_short s t (Some p) prefix a is = best_short s.conf s.adj_in (export_peer_of s.conf t p) prefix (best_at s.loc_rib prefix) a is

pub export_short : (s : SpeakerState) (t : ℕ) (prefix : Prefix) (a : List ℕ) → export_to s t prefix ≡ Some a → length a ≤ 4068
export_short s t prefix a is = peer_short s t (peer_at s.conf t) prefix a is

-- the export to a slot that is configured
pub export_peer_found : (s : SpeakerState) (t : ℕ) (p : ConfiguredPeer) (prefix : Prefix) → peer_at s.conf t ≡ Some p → export_to s t prefix ≡ export_in s.conf (best_at s.loc_rib) s.adj_in (export_peer_of s.conf t p) prefix
export_peer_found s t p prefix is = ap (λ found. option_and_then (λ x. export_in s.conf (best_at s.loc_rib) s.adj_in (export_peer_of s.conf t x) prefix) found) is

-- the slot for which something is done
pub at_slot : (config : Config) (t : ℕ) (call : Call) (service : Service) (queue : Queue) (r : Run)
    → history config t (turn call ((t, service) ∷ queue) ∷ r) ≡ served_by service ∷ history config t (turn call queue ∷ r)
at_slot config t call service queue r = rw (eq-eqb t t refl) refl

pub off_slot : (config : Config) (t slot : ℕ) (call : Call) (service : Service) (queue : Queue) (r : Run) → t ≢ slot
    → history config t (turn call ((slot, service) ∷ queue) ∷ r) ≡ history config t (turn call queue ∷ r)
off_slot config t slot call service queue r other = rw (ne_eqb t slot other) refl
