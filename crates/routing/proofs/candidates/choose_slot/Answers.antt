use Rattle.std.proofs.Common.{◌≡◌, ◌∙◌, ap, is_some, refl, subst, sym}
use Rattle.std.specs.Option.{IsSome}
use Rattle.rib_in.specs.LatestRoutes.{route_at}
use Rattle.routing.specs.RoutingState.{RoutingState}
use Rattle.routing.proofs.RemadeOffers.{RemadeUpTo-all, RemadeUpTo-more, RemadeUpTo-none}
use Rattle.routing.proofs.Counting.{counts_more, counts_none}
use Rattle.routing.proofs.candidates.choose_slot.Goals as goal

pub loop-prefix-init : goal.loop-prefix-init
loop-prefix-init g c = (RemadeUpTo-none _ _ _, refl, c.requires.sound, c.requires.marked, counts_none _ _, refl)

pub loop-prefix-preserved : goal.loop-prefix-preserved
loop-prefix-preserved g c =
    let h = c.loop-prefix.invariant in
    let below = rw c.place-place.ensures.place at c.place-place.ensures.below in
    let walked : c.routing.inside.ribs.adj_in ≡ c.args.routing.now.adj_in = ap (λ (t : RoutingState). t.adj_in) c.routing.view_is ∙ h.1 in
    let least = rw walked at c.in-Some.ensures.least in
    let made = rw (h.1, h.5) at c.choose_at.ensures.made in
    let has : IsSome (route_at c.args.routing.now.adj_in c.args.slot c.in-Some.prefix) = subst (λ t. IsSome (route_at t c.args.slot c.in-Some.prefix)) walked c.in-Some.ensures.has in (
      RemadeUpTo-more _ _ _ _ _ _ _ h.0 has (λ s r held above there. least r above held) below made,
      c.choose_at.ensures.routes ∙ h.1,
      c.choose_at.ensures.sound,
      c.choose_at.ensures.marked,
      counts_more _ c.loop-prefix.after c.in-Some.prefix _ _ _ h.4 c.in-Some.ensures.above has c.choose_at.ensures.chosen c.choose_at.ensures.rises,
      c.choose_at.ensures.sent ∙ h.5,
    )

pub returns-clause-made : goal.returns-clause-made
returns-clause-made g c =
    let h = c.loop-prefix.invariant in
    let walked : c.routing.inside.ribs.adj_in ≡ c.args.routing.now.adj_in = ap (λ (t : RoutingState). t.adj_in) c.routing.view_is ∙ h.1 in
    let none = rw walked at c.in_default.ensures.none in
    RemadeUpTo-all _ _ _ _ _ h.0 (λ s q held above. absurd (let never = sym held ∙ ap is_some (none q above) in cc))

pub returns-clause-chosen : goal.returns-clause-chosen
returns-clause-chosen g c = let counts = c.loop-prefix.invariant.4 in (counts.prefixes, counts.different, counts.most)

pub returns-clause-rises : goal.returns-clause-rises
returns-clause-rises g c = c.loop-prefix.invariant.4.rises
