use Rattle.std.proofs.Common.{◌≡◌, ◌∙◌, ap, refl}
use Rattle.rtr_cache.specs.CacheState.{CacheState}
use Rattle.wires.specs.Wires.{WireState}
use Rattle.cache_program.proofs.served_list.ServedList.figures.Goals as goal

pub returns : goal.returns
returns g c =
    let octets_in : c.octets_in.result ≡ c.self.inside.turns.counts.wire.octets_in = c.octets_in.ensures ∙ ap (λ (s : WireState). s.octets_in) c.wire-wire.ensures in
    let octets_out : c.octets_out.result ≡ c.self.inside.turns.counts.wire.octets_out = c.octets_out.ensures ∙ ap (λ (s : WireState). s.octets_out) c.wire-wire.ensures in
    let withdrawn : c.is_withdrawn.result ≡ c.self.inside.turns.cache.shared.withdrawn = c.is_withdrawn.ensures ∙ ap (λ (s : CacheState). s.shared.withdrawn) c.cache.ensures in
    rw (← c.self.view_is)
    rw c.connections.ensures
    rw c.holding-holding.ensures.counts
    rw octets_in
    rw octets_out
    rw c.lost.ensures
    rw c.closed.ensures
    rw c.saturating_sub.ensures
    rw withdrawn
    refl
