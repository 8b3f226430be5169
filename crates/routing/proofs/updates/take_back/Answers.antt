use Rattle.std.proofs.Common.{◌≡◌, ◌+◌, ◌∷◌, false, true, drop, option_map, sym, ap, subst, ◌∙◌}
use Rattle.std.specs.Option.{is_some}
use Rattle.std.proofs.lemmas.List.{drop_all, drop_more}
use Rattle.routing.specs.Brought.{IsPartial, NamedPrefix}
use Rattle.routing.specs.MarksIn.{AreMarkedIn}
use Rattle.routing.specs.RoutingState.{RoutingState}
use Rattle.routing.proofs.BroughtPrefixes.{partial_gone, partial_none, partial_passed, some_mapped}
use Rattle.routing.proofs.updates.take_back.Goals as goal
use Rattle.routing.proofs.updates.take_back.Goals.{then-is_none, else-is_none}

pub loop-announced-preserved : goal.loop-announced-preserved
loop-announced-preserved g c =
    let h = c.loop-announced.invariant in
    let n : NamedPrefix = record { prefix = c.announced.inside.prefix; replacing = option_map (λ attrs. attrs.value) c.announced.inside.replacing } in
    let cut : drop c.loop-announced.announced-index c.args.named.now ≡ n ∷ drop (c.loop-announced.announced-index + 1) c.args.named.now =
    drop_more c.args.named.now c.loop-announced.announced-index c.announced-item.result c.loop-announced-test.true
    ∙ ap (λ x. x ∷ drop (c.loop-announced.announced-index + 1) c.args.named.now) (sym c.announced-item.is ∙ sym c.announced.view_is) in
    elim c.if-is_none.branch [
      | then-is_none w ↦
          let none : is_some n.replacing ≡ false = some_mapped _ _ ∙ w.if-is_none.ensures in
          subst (λ (r : RoutingState). ((first : RoutingState) → IsPartial c.args.slot c.args.named.now first c.args.routing.now → IsPartial c.args.slot (drop (c.loop-announced.announced-index + 1) c.args.named.now) first r) × AreMarkedIn c.args.conf.now c.args.links.now.entries r × (r.sent ≡ c.args.routing.now.sent))
          (sym w.routing-is) (
            λ first p. partial_gone c.args.slot n (drop (c.loop-announced.announced-index + 1) c.args.named.now) first c.loop-announced.routing w.withdraw.new.self none w.withdraw.ensures.routes w.withdraw.ensures.offers w.withdraw.ensures.never
                (subst (λ xs. IsPartial c.args.slot xs first c.loop-announced.routing) cut (h.0 first p)),
            w.withdraw.ensures.marked,
            w.withdraw.ensures.sent ∙ h.2,
          )
      | else-is_none w ↦
          let some : is_some n.replacing ≡ true = some_mapped _ _ ∙ w.if-is_none.ensures in
          subst (λ (r : RoutingState). ((first : RoutingState) → IsPartial c.args.slot c.args.named.now first c.args.routing.now → IsPartial c.args.slot (drop (c.loop-announced.announced-index + 1) c.args.named.now) first r) × AreMarkedIn c.args.conf.now c.args.links.now.entries r × (r.sent ≡ c.args.routing.now.sent))
          (sym w.routing-is)
          (λ first p. partial_passed c.args.slot n (drop (c.loop-announced.announced-index + 1) c.args.named.now) first c.loop-announced.routing some (subst (λ xs. IsPartial c.args.slot xs first c.loop-announced.routing) cut (h.0 first p)), h.1, h.2)
    ]

pub returns-clause-whole : goal.returns-clause-whole
returns-clause-whole g c = λ first p.
    partial_none c.args.slot first c.loop-announced.routing
    (subst (λ xs. IsPartial c.args.slot xs first c.loop-announced.routing) (drop_all c.loop-announced.announced-index c.args.named.now c.loop-announced-test.false) (c.loop-announced.invariant.0 first p))
