use Rattle.std.proofs.Common.{◌≡◌, false, List, [], ◌∷◌, refl, ap, ◌∙◌}
use Rattle.std.specs.BTreeMap.{is_at}
use Rattle.std.specs.BTreeSet.{insert_key}
use Rattle.std.specs.List.{list_any}
use Rattle.std.specs.Ordering.{is_eq, match_ordering}
use Rattle.std.specs.Set.{remove_key}
use Rattle.std.specs.declared.cmp.Ordering.{Ordering}
use Rattle.std.specs.declared.cmp.Ordering.TheVariants.{Less, Equal, Greater}
use Rattle.bgp_conf.specs.ConfAfter.{conf_after}
use Rattle.bgp_conf.specs.Configuration.{Configuration, is_network}
use Rattle.bgp_conf.specs.declared.command.Command.TheVariants.{Network, NoNetwork}
use Rattle.decision.specs.BookContents.{offer_at, rows_of}
use Rattle.net_prefix.specs.PrefixOrder.{prefix_cmp}
use Rattle.net_prefix.specs.declared.prefix.Prefix.{Prefix}
use Rattle.rib_in.specs.LatestRoutes.{route_at}
use Rattle.rib_out.proofs.Prefixes.{is_prefix-refl}
use Rattle.routing.specs.RoutesState.{RoutesState, StaysAsIs}
use Rattle.routing.specs.Tables.{link_at}

-- Local networks that come, and that memory is refused to.

-- a network that comes and goes leaves the others
key_back : (network : Prefix) (networks : List Prefix) → list_any (is_at (prefix_cmp network)) networks ≡ false → remove_key (is_at (prefix_cmp network)) (insert_key prefix_cmp networks network) ≡ networks
key_back network [] none = rw (is_prefix-refl network) refl
key_back network (q ∷ networks) none = by_order (key_back network networks) (prefix_cmp network q) refl
  where
    by_order : (list_any (is_at (prefix_cmp network)) networks ≡ false → remove_key (is_at (prefix_cmp network)) (insert_key prefix_cmp networks network) ≡ networks) → (o : Ordering) → prefix_cmp network q ≡ o → remove_key (is_at (prefix_cmp network)) (match_ordering o (network ∷ q ∷ networks) (q ∷ networks) (q ∷ insert_key prefix_cmp networks network)) ≡ q ∷ networks
    by_order behind Less at = rw (is_prefix-refl network) refl
    by_order behind Equal at = absurd (let here = ap is_eq at in cc)
    by_order behind Greater at =
        let off : is_at (prefix_cmp network) q ≡ false = ap is_eq at in
        let rest : list_any (is_at (prefix_cmp network)) networks ≡ false = rw off at none in
        rw off (ap (λ rest. q ∷ rest) (behind rest))

pub network_restored : (conf : Configuration) (network : Prefix) → is_network conf network ≡ false → conf_after (conf_after conf (Network network)) (NoNetwork network) ≡ conf
network_restored conf network none = ap (λ (networks : List Prefix). record conf { networks = networks }) (key_back network conf.networks none)

-- memory was refused to a local network: all is as before
pub network_refused : (network : Prefix) (old mid back new : RoutesState) → is_network old.conf network ≡ false → mid ≡ record old { conf = conf_after old.conf (Network network) } → StaysAsIs mid back
    → new ≡ record back { conf = conf_after back.conf (NoNetwork network) } → StaysAsIs old new
network_refused network old mid back new none is before restored = record {
  conf =
      ap (λ (s : RoutesState). s.conf) restored ∙ ap (λ c. conf_after c (NoNetwork network)) (before.conf ∙ ap (λ (s : RoutesState). s.conf) is)
      ∙ network_restored old.conf network none;
  payloads = ap (λ (s : RoutesState). s.payloads) restored ∙ before.payloads ∙ ap (λ (s : RoutesState). s.payloads) is;
  links = λ slot. ap (λ (s : RoutesState). link_at s.links slot) restored ∙ before.links slot ∙ ap (λ (s : RoutesState). link_at s.links slot) is;
  routes = λ slot p. ap (λ (s : RoutesState). route_at s.adj_in slot p) restored ∙ before.routes slot p ∙ ap (λ (s : RoutesState). route_at s.adj_in slot p) is;
  offers = λ slot p. ap (λ (s : RoutesState). offer_at s.book slot p) restored ∙ before.offers slot p ∙ ap (λ (s : RoutesState). offer_at s.book slot p) is;
  rows = ap (λ (s : RoutesState). rows_of s.book) restored ∙ before.rows ∙ ap (λ (s : RoutesState). rows_of s.book) is;
  chosen = ap (λ (s : RoutesState). s.chosen) restored ∙ before.chosen ∙ ap (λ (s : RoutesState). s.chosen) is;
}
