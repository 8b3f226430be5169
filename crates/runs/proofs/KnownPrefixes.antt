use Rattle.std.proofs.Common.{◌≡◌, ◌<◌, ◌⊎◌, ◌||◌, ℕ, Bool, true, false, List, [], ◌∷◌, Some, None, cond, refl, sym, ap, ◌∙◌, subst, inl, inr}
use Rattle.std.specs.BTreeMap.{is_at}
use Rattle.std.specs.List.{list_any}
use Rattle.std.specs.Option.{IsSome}
use Rattle.bgp_attr.specs.PathAttributes.{originated}
use Rattle.bgp_conf.specs.Configuration.{Configuration, is_network}
use Rattle.bgp_peer.specs.SessionInputs as happens
use Rattle.net_prefix.specs.PrefixOrder.{prefix_cmp}
use Rattle.net_prefix.specs.declared.prefix.Prefix.{Prefix}
use Rattle.decision.specs.BookContents.{is_prefix}
use Rattle.rib_in.specs.LatestRoutes.{HasRoute, route_at}
use Rattle.rib_out.proofs.Prefixes.{is_prefix-refl}
use Rattle.rtr_session.specs.SessionHistory as cached
use Rattle.routing.specs.Updates.{is_among}
use Rattle.runs.specs.AdjRibIn.{route}
use Rattle.runs.specs.Agreement.{HoldsBy}
use Rattle.runs.specs.Runs.{Run, configuration_of, history}
use Rattle.runs.specs.SpeakerState.{SpeakerState}
use Rattle.routing.specs.Tables.{network_route}
use Rattle.runs.specs.declared.config.Config.{Config}
use Rattle.runs.proofs.PeerRoutes.{peer_as}
use Rattle.routing.proofs.Places.{same_from_is_prefix}

-- The prefixes that are known: of routes of peers, and local networks.

abbrev pub IsKnown : Config → Run → Prefix → Type 0
IsKnown config r p = ((s : ℕ) × (s < 64) × IsSome (route (history config s r) p)) ⊎ (is_network (configuration_of config r) p ≡ true)

-- a member by the order is one
pub network_among : (p : Prefix) (networks : List Prefix) → list_any (is_at (prefix_cmp p)) networks ≡ true → is_among p networks ≡ true
network_among p [] h = absurd (cc)
network_among p (q ∷ networks) h = here (network_among p networks) (is_at (prefix_cmp p) q) refl h
  where
    or_true : (a b : Bool) → b ≡ true → (a || b) ≡ true
    or_true true b is = refl
    or_true false b is = is

    here : (list_any (is_at (prefix_cmp p)) networks ≡ true → is_among p networks ≡ true) → (b : Bool) → is_at (prefix_cmp p) q ≡ b → (b || list_any (is_at (prefix_cmp p)) networks) ≡ true → is_among p (q ∷ networks) ≡ true
    here later true at is =
        let one : p ≡ q = same_from_is_prefix p q at in
        subst (λ x. is_among p (x ∷ networks) ≡ true) one (rw (is_prefix-refl p) refl)
    here later false at is = or_true (is_prefix q p) (is_among p networks) (later is)

-- a local network has a route
network_some : (b : Bool) → IsSome (cond b (Some originated) None) → b ≡ true
network_some true there = refl
network_some false there = absurd (cc)

-- the prefix of a route that is kept is known
pub known_of : (config : Config) (conf : Configuration) (now : ℕ) (k : List cached.Event) (histories : ℕ → List happens.Event) (most : ℕ) (r : Run) (s : SpeakerState) → HoldsBy config conf now k histories most s
    → conf ≡ configuration_of config r → ((t : ℕ) (p : Prefix) → route (histories t) p ≡ route (history config t r) p) → (p : Prefix) → HasRoute s.adj_in p → IsKnown config r p
known_of config conf now k histories most r s h same routes p there = elim (h.kept.routed there.0 p there.1) [
  | inl up ↦
      let below = h.kept.below there.0 up.0 up.1 in
      inl (there.0, below, subst (λ o. IsSome o) (sym (peer_as s.adj_in there.0 p below) ∙ (h.slots there.0).routes_are p ∙ routes there.0 p) there.1)
  | inr local ↦
      let here : IsSome (network_route s.conf p) = subst (λ o. IsSome o) (ap (λ x. route_at s.adj_in x p) local ∙ h.networks p) there.1 in
      inr (sym (ap (λ c. is_network c p) (h.conf ∙ same)) ∙ network_some (is_network s.conf p) here)
]
