use Rattle.std.proofs.Common.{◌≡◌, ◌≢◌, ℕ, Some, sym, ap, ◌∙◌, subst}
use Rattle.bgp_attr.specs.PathAttributes.{PathAttributes}
use Rattle.bgp_conf.specs.Configuration.{Configuration, peer_at}
use Rattle.bgp_conf.specs.declared.conf.ConfiguredPeer.{ConfiguredPeer}
use Rattle.routing.specs.Candidates.{IsFeasible, MakesNone}
use Rattle.routing.specs.declared.candidates.Mandatory.{Mandatory}

-- attributes of which the selection can read nothing make no candidate
pub makes_none : (conf : Configuration) (slot identifier : ℕ) (attrs : PathAttributes) (peer : ConfiguredPeer) → peer_at conf slot ≡ Some peer
    → ((m : Mandatory) → IsFeasible conf peer.local attrs m → ⊥) → MakesNone conf slot identifier attrs
makes_none conf slot identifier attrs peer here none c at is =
    let both : Some is.peer ≡ Some peer = sym is.configured ∙ ap (peer_at conf) at ∙ here in
    let same : is.peer ≡ peer = cc in
    none (record { origin = c.origin; path_length = c.path_length; neighbor = c.neighbor; cost = c.cost })
    (record {
      path = is.path;
      next_hop = is.next_hop;
      origin_is = is.origin_is;
      path_is = is.path_is;
      next_hop_is = is.next_hop_is;
      without_own_as = is.without_own_as;
      not_own_address = subst (λ (p : ConfiguredPeer). is.next_hop ≢ p.local) same is.not_own_address;
      resolves = is.resolves;
      length_is = is.length_is;
      neighbor_is = is.neighbor_is;
    })
