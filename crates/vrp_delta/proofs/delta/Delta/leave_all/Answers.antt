use Rattle.std.proofs.Common.{◌≡◌, ◌∷◌, ◌+◌, drop, ap, sym, subst, ◌∙◌}
use Rattle.vrp_delta.specs.Delta.{Change}
use Rattle.vrp_delta.specs.Staged.{Rises, left}
use Rattle.vrp_delta.specs.Steps.{left_all}
use Rattle.vrp_delta.proofs.Steps.{rises-left}
use Rattle.std.proofs.lemmas.List.{drop_more}
use Rattle.vrp_delta.proofs.delta.Delta.leave_all.Goals as goal

pub loop-payload-preserved : goal.loop-payload-preserved
loop-payload-preserved g c =
    let here : drop c.loop-payload.payload-index c.args.payloads.now ≡ c.payload-item.result ∷ drop (c.loop-payload.payload-index + 1) c.args.payloads.now =
    drop_more c.args.payloads.now c.loop-payload.payload-index c.payload-item.result c.loop-payload-test.true
    ∙ ap (λ x. x ∷ drop (c.loop-payload.payload-index + 1) c.args.payloads.now) (sym c.payload-item.is) in
    let now : c.leave.new.self ≡ left c.payload-item.result c.loop-payload.self = c.in_ok-leave.ensures.ok in
    let rises : Rises c.leave.new.self = subst Rises (sym now) (rises-left c.payload-item.result c.loop-payload.self c.loop-payload.invariant.1) in (
      ap (λ (change : Change). left_all (drop (c.loop-payload.payload-index + 1) c.args.payloads.now) change) now ∙ ap (λ l. left_all l c.loop-payload.self) (sym here) ∙ c.loop-payload.invariant.0,
      rises,
    )
