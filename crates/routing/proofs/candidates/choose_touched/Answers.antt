use Rattle.std.proofs.Common.{◌≡◌, ◌∙◌, refl, subst, true}
use Rattle.decision.specs.BookContents.{offer_at}
use Rattle.rib_in.specs.LatestRoutes.{HasRoute}
use Rattle.routing.specs.Chosen.{OncePerPrefix}
use Rattle.routing.specs.Offers.{AreMadeWhere, is_within}
use Rattle.routing.specs.Sent.{linked}
use Rattle.routing.specs.Tables.{payloads_under, tables}
use Rattle.routing.proofs.RemadeOffers.{made_none}
use Rattle.routing.proofs.TouchedStretches.{Touches-all, Touches-more, Touches-none}
use Rattle.routing.proofs.candidates.choose_touched.Goals as goal

pub loop-stretch-init : goal.loop-stretch-init
loop-stretch-init g c =
    let touched = rw c.exceptions.ensures at c.affected-stretch-items.ensures in
    let whole = c.into_iter-stretch-iterator.ensures.into_iter_gives ∙ touched in
    (Touches-none _ _ _ _ _ _ whole (made_none _ _), refl, c.requires.sound, c.requires.marked, refl)

pub loop-stretch-preserved : goal.loop-stretch-preserved
loop-stretch-preserved g c =
    let h = c.loop-stretch.invariant in
    let made = rw (h.1, h.4) at c.choose_within.ensures.made in
    let chosen = rw h.1 at c.choose_within.ensures.chosen in (
      Touches-more _ _ _ _ _ _ _ _ _ _ _ _ _ h.0 c.in-Some.ensures.steps made chosen c.choose_within.ensures.rises,
      c.choose_within.ensures.routes ∙ h.1,
      c.choose_within.ensures.sound,
      c.choose_within.ensures.marked,
      c.choose_within.ensures.sent ∙ h.4,
    )

pub returns-clause-made : goal.returns-clause-made
returns-clause-made g c =
    let h = c.loop-stretch.invariant in
    subst (λ seen. AreMadeWhere (tables c.args.conf.now (payloads_under c.args.conf.now c.args.payloads.now) (linked c.args.links.now.entries c.args.routing.now.sent) c.args.routing.now.adj_in) (is_within seen) (offer_at c.args.routing.now.book) (offer_at c.loop-stretch.routing.book))
    (Touches-all _ _ _ _ _ _ _ _ _ h.0 c.in-None.ensures.steps.0)
    h.0.made

pub returns-clause-chosen : goal.returns-clause-chosen
returns-clause-chosen g c =
    let h = c.loop-stretch.invariant in
    subst (λ seen. OncePerPrefix (λ p. (is_within seen p ≡ true) × HasRoute c.args.routing.now.adj_in p) c.args.routing.now.chosen c.loop-stretch.routing.chosen)
    (Touches-all _ _ _ _ _ _ _ _ _ h.0 c.in-None.ensures.steps.0)
    h.0.chosen
