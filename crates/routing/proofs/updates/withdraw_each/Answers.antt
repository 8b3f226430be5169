use Rattle.std.proofs.Common.{◌≡◌, true, false, not, refl, sym, ap, ◌∙◌, arith}
use Rattle.bgp_msg.specs.MessageSpelling.{front_prefixes}
use Rattle.routing.specs.Updates.{is_among}
use Rattle.routing.proofs.Counting.{named_all, named_more, named_none, named_still, only_in}
use Rattle.routing.proofs.RouteChanges.{Sets-start, Sets-more, Sets-passed, Sets-end, set_here}
use Rattle.routing.proofs.updates.withdraw_each.Goals as goal

pub loop-prefix-init : goal.loop-prefix-init
loop-prefix-init g c =
    let all = ap (λ p. (front_prefixes p.octets.now).0) c.into_iter-prefix-iterator.ensures.into_iter_gives in
    (Sets-start _ _ _ _ _ _ all, Sets-start _ _ _ _ _ _ all, c.requires, named_none _ _, omega arith, refl)

pub loop-prefix-preserved-then-not-is_named : goal.loop-prefix-preserved-then-not-is_named
loop-prefix-preserved-then-not-is_named g c =
    let h = c.loop-prefix.invariant in
    let takes : only_in c.args.announced.octets.now c.in-Some.prefix ≡ true = ap not (sym c.is_named.ensures ∙ c.if-not-is_named.true) in
    let again : is_among c.in-Some.prefix c.loop-prefix.yielded ≡ true → c.withdraw.new.self.chosen ≡ c.loop-prefix.routing.chosen = λ there. c.withdraw.ensures.unrouted (set_here _ _ _ _ _ _ _ _ c.in-Some.prefix h.0 there takes) in
    let before = h.4 in
    let later = c.withdraw.ensures.rises in (
      Sets-more _ _ _ _ _ _ _ _ _ _ _ h.0 c.in-Some.ensures.steps takes c.withdraw.ensures.routes,
      Sets-more _ _ _ _ _ _ _ _ _ _ _ h.1 c.in-Some.ensures.steps takes c.withdraw.ensures.offers,
      c.withdraw.ensures.marked,
      named_more _ _ _ _ _ _ h.3 takes c.withdraw.ensures.chosen again,
      omega (arith, before, later),
      c.withdraw.ensures.sent ∙ h.5,
    )

pub loop-prefix-preserved : goal.loop-prefix-preserved
loop-prefix-preserved g c =
    let h = c.loop-prefix.invariant in
    let passes : only_in c.args.announced.octets.now c.in-Some.prefix ≡ false = ap not (sym c.is_named.ensures ∙ c.if-not-is_named.false) in (
      Sets-passed _ _ _ _ _ _ _ _ _ _ h.0 c.in-Some.ensures.steps passes,
      Sets-passed _ _ _ _ _ _ _ _ _ _ h.1 c.in-Some.ensures.steps passes,
      h.2,
      named_still _ _ c.in-Some.prefix _ _ _ h.3 refl,
      h.4,
      h.5,
    )

pub returns-clause-routes : goal.returns-clause-routes
returns-clause-routes g c = Sets-end _ _ _ _ _ _ _ _ c.loop-prefix.invariant.0 c.in-None.ensures.steps.0

pub returns-clause-offers : goal.returns-clause-offers
returns-clause-offers g c = Sets-end _ _ _ _ _ _ _ _ c.loop-prefix.invariant.1 c.in-None.ensures.steps.0

pub returns-clause-chosen : goal.returns-clause-chosen
returns-clause-chosen g c = let h = c.loop-prefix.invariant in named_all _ _ _ _ _ _ h.0.whole h.3
