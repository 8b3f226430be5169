use Rattle.std.proofs.Common.{◌≡◌, None, Option, Some, option_map, refl, ◌∙◌}
use Rattle.rib_out.specs.Held.{HeldRoute}
use Rattle.rib_rows.specs.Records.{renewed}
use Rattle.loc_rib.proofs.SentSteps.{held_more}
use Rattle.loc_rib.proofs.sent.renew_all.Goals as goal

once : (o : Option HeldRoute) → option_map renewed (option_map renewed o) ≡ option_map renewed o
once None = refl
once (Some route) = refl

pub loop-prefix-preserved : goal.loop-prefix-preserved
loop-prefix-preserved g c =
    let prefixes = c.args.prefixes.now in
    let i = c.loop-prefix.prefix-index in
    let x = c.prefix-item.result in
    let old = c.loop-prefix.rows.entries in
    let new = c.renew_in.new.rows.entries in
    let h = c.loop-prefix.invariant in
    record {
      rows = c.renew_in.ensures.rows;
      routed = λ p. c.renew_in.ensures.routed p ∙ h.routed p;
      held = λ p s. held_more prefixes i x c.loop-prefix-test.true c.prefix-item.is old new c.renew_in.ensures.others c.args.slot (option_map renewed) once c.renew_in.ensures.held p s _ (h.held p s);
    }
