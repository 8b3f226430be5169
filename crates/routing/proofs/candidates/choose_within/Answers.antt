use Rattle.std.proofs.Common.{◌≡◌, ◌∙◌, ap, refl}
use Rattle.routing.specs.RoutingState.{RoutingState}
use Rattle.routing.proofs.RemadeOffers.{RemadeUpTo-more, RemadeUpTo-none}
use Rattle.routing.proofs.Counting.{counts_more, counts_none}
use Rattle.routing.proofs.candidates.choose_within.Goals as goal

pub loop-prefix-init : goal.loop-prefix-init
loop-prefix-init g c = (RemadeUpTo-none _ _ _, refl, c.requires.sound, c.requires.marked, counts_none _ _, tt, refl)

pub loop-prefix-preserved : goal.loop-prefix-preserved
loop-prefix-preserved g c =
    let h = c.loop-prefix.invariant in
    let below = rw c.place-place.ensures.place at c.place-place.ensures.below in
    let walked : c.routing.inside.ribs.adj_in ≡ c.args.routing.now.adj_in = ap (λ (t : RoutingState). t.adj_in) c.routing.view_is ∙ h.1 in
    let next = rw walked at c.in-Some.ensures in
    let made = rw (h.1, h.6) at c.choose_at.ensures.made in (
      RemadeUpTo-more _ _ _ _ _ _ _ h.0 next.1 next.3 below made,
      c.choose_at.ensures.routes ∙ h.1,
      c.choose_at.ensures.sound,
      c.choose_at.ensures.marked,
      counts_more _ c.loop-prefix.after c.in-Some.prefix _ _ _ h.4 next.2 (next.1, next.0) c.choose_at.ensures.chosen c.choose_at.ensures.rises,
      next.1,
      c.choose_at.ensures.sent ∙ h.6,
    )
