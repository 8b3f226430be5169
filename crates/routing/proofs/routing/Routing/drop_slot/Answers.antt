use Rattle.std.proofs.Common.{◌≡◌, ◌∙◌, false, ap, refl, subst}
use Rattle.std.specs.Option.{IsSome}
use Rattle.std.specs.Ordering.{is_gt}
use Rattle.net_prefix.specs.PrefixOrder.{IsAbove, prefix_cmp}
use Rattle.net_prefix.specs.declared.prefix.Prefix.{Prefix}
use Rattle.rib_in.proofs.SlotWalks.{drops_first, drops_more}
use Rattle.rib_in.specs.LatestRoutes.{route_at}
use Rattle.loc_rib.proofs.EndedSlots.{others_first, others_more}
use Rattle.routing.specs.RoutingState.{RoutingState}
use Rattle.routing.proofs.Counting.{counts_more, counts_none, there_more}
use Rattle.routing.proofs.routing.Routing.drop_slot.Goals as goal

pub loop-prefix-init : goal.loop-prefix-init
loop-prefix-init g c = (drops_first _ _, others_first _ _, c.requires, λ p there. there, counts_none _ _, refl)

pub loop-prefix-preserved : goal.loop-prefix-preserved
loop-prefix-preserved g c =
    let h = c.loop-prefix.invariant in
    let read = ap (λ (t : RoutingState). t.adj_in) c.self.view_is in
    let has = subst (λ t. IsSome (route_at t c.args.slot c.in-Some.prefix)) read c.in-Some.ensures.has in
    let least = subst (λ t. (x : Prefix) → IsAbove c.loop-prefix.after x → IsSome (route_at t c.args.slot x) → is_gt (prefix_cmp c.in-Some.prefix x) ≡ false) read c.in-Some.ensures.least in (
      drops_more c.args.slot c.loop-prefix.after c.in-Some.prefix _ _ _ h.0 least c.withdraw.ensures.routes,
      others_more c.args.slot c.in-Some.prefix _ _ _ h.1 c.withdraw.ensures.offers,
      c.withdraw.ensures.marked,
      there_more c.args.slot c.in-Some.prefix _ _ _ h.3 c.withdraw.ensures.routes,
      counts_more _ c.loop-prefix.after c.in-Some.prefix _ _ _ h.4 c.in-Some.ensures.above (h.3 c.in-Some.prefix has) c.withdraw.ensures.chosen c.withdraw.ensures.rises,
      c.withdraw.ensures.sent ∙ h.5,
    )

pub returns-clause-chosen : goal.returns-clause-chosen
returns-clause-chosen g c = let counts = c.loop-prefix.invariant.4 in (counts.prefixes, counts.different, counts.most)

pub returns-clause-rises : goal.returns-clause-rises
returns-clause-rises g c = c.loop-prefix.invariant.4.rises
