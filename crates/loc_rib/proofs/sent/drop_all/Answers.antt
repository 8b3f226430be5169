use Rattle.std.proofs.Common.{None, refl, ◌∙◌}
use Rattle.loc_rib.proofs.SentSteps.{held_more}
use Rattle.loc_rib.proofs.sent.drop_all.Goals as goal

pub loop-prefix-preserved : goal.loop-prefix-preserved
loop-prefix-preserved g c =
    let prefixes = c.args.prefixes.now in
    let i = c.loop-prefix.prefix-index in
    let x = c.prefix-item.result in
    let old = c.loop-prefix.rows.entries in
    let new = c.drop_in.new.rows.entries in
    let h = c.loop-prefix.invariant in
    record {
      rows = c.drop_in.ensures.rows;
      routed = λ p. c.drop_in.ensures.routed p ∙ h.routed p;
      held = λ p s. held_more prefixes i x c.loop-prefix-test.true c.prefix-item.is old new c.drop_in.ensures.others c.args.slot (λ o. None) (λ o. refl) c.drop_in.ensures.held p s _ (h.held p s);
    }
