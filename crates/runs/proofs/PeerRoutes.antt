use Rattle.std.proofs.Common.{◌≡◌, ◌≢◌, ◌<◌, ◌==◌, ℕ, Bool, true, false, List, [], Option, None, cond, refl, sym, ap, subst, arith}
use Rattle.std.proofs.lemmas.Bool.{ne_eqb}
use Rattle.bgp_conf.specs.declared.conf.ConfiguredPeer.{ConfiguredPeer}
use Rattle.bgp_peer.specs.SessionInputs as happens
use Rattle.net_prefix.specs.declared.prefix.Prefix.{Prefix}
use Rattle.rib_in.specs.LatestRoutes.{RouteTable, route_at}
use Rattle.runs.specs.Agreement.{SlotAgrees}
use Rattle.routing.specs.Linked.{Linked}
use Rattle.routing.specs.Tables.{peer_route_at}
use Rattle.runs.specs.declared.config.Config.{Config}
use Rattle.runs.proofs.SlotStates.{SlotIs}

-- The routes of peers' slots: what stands under the last one are the local networks.

-- a peer's slot isn't that of the local networks
pub not_local : (slot : ℕ) → slot < 64 → slot ≢ 64
not_local slot below is = absurd (omega (arith, below, is))

pub peer_as : (adj_in : RouteTable) (slot : ℕ) (p : Prefix) → slot < 64 → peer_route_at adj_in slot p ≡ route_at adj_in slot p
peer_as adj_in slot p below = rw (ne_eqb slot 64 (not_local slot below)) refl

pub peers_same : (old new : RouteTable) (slot : ℕ) → ((p : Prefix) → route_at new slot p ≡ route_at old slot p) → (p : Prefix) → peer_route_at new slot p ≡ peer_route_at old slot p
peers_same old new slot same p = ap (λ r. cond (slot == 64) None r) (same p)

-- no routes
pub peer_none : (slot : ℕ) (p : Prefix) → peer_route_at [] slot p ≡ None
peer_none slot p = of (slot == 64)
  where
    of : (b : Bool) → cond b None (route_at [] slot p) ≡ None
    of true = refl
    of false = refl

-- what is said of the one is said of the other
pub agrees_routes : (config : Config) (found : Option ConfiguredPeer) (linked : Option Linked) (adj_in : RouteTable) (slot : ℕ) (h : List happens.Event) → slot < 64
    → SlotAgrees config found linked (peer_route_at adj_in slot) h → SlotAgrees config found linked (route_at adj_in slot) h
agrees_routes config found linked adj_in slot h below a = subst (λ routes. SlotAgrees config found linked routes h) (λ i p. peer_as adj_in slot p below i) a

pub agrees_peers : (config : Config) (found : Option ConfiguredPeer) (linked : Option Linked) (adj_in : RouteTable) (slot : ℕ) (h : List happens.Event) → slot < 64
    → SlotAgrees config found linked (route_at adj_in slot) h → SlotAgrees config found linked (peer_route_at adj_in slot) h
agrees_peers config found linked adj_in slot h below a = subst (λ routes. SlotAgrees config found linked routes h) (λ i p. sym (peer_as adj_in slot p below) i) a

pub is_routes : (config : Config) (peer : ConfiguredPeer) (l : Linked) (adj_in : RouteTable) (slot : ℕ) (h : List happens.Event) → slot < 64
    → SlotIs config peer l (peer_route_at adj_in slot) h → SlotIs config peer l (route_at adj_in slot) h
is_routes config peer l adj_in slot h below a = subst (λ routes. SlotIs config peer l routes h) (λ i p. peer_as adj_in slot p below i) a
