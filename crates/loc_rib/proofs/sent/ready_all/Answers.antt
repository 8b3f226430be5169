use Rattle.std.proofs.Common.{◌∙◌}
use Rattle.rib_rows.specs.Records.{IsPrepared}
use Rattle.loc_rib.proofs.SentSteps.{others_more, passed_more, same_more}
use Rattle.loc_rib.proofs.sent.ready_all.Goals as goal

pub loop-prefix-preserved : goal.loop-prefix-preserved
loop-prefix-preserved g c =
    let prefixes = c.args.prefixes.now in
    let i = c.loop-prefix.prefix-index in
    let x = c.prefix-item.result in
    let old = c.loop-prefix.rows.entries in
    let new = c.ready_in.new.rows.entries in
    let h = c.loop-prefix.invariant in
    record {
      rows = c.ready_in.ensures.rows;
      routed = λ p. c.ready_in.ensures.routed p ∙ h.routed p;
      held = λ p s. same_more prefixes i x c.loop-prefix-test.true c.prefix-item.is old new c.ready_in.ensures.others c.ready_in.ensures.held p s ∙ h.held p s;
      others = others_more prefixes i x c.loop-prefix-test.true c.prefix-item.is old new c.ready_in.ensures.others c.args.rows.now.entries h.others;
      ready = passed_more prefixes i x c.loop-prefix-test.true c.prefix-item.is old new c.ready_in.ensures.others (IsPrepared c.args.sent.now) h.ready c.in_ok-ready_in.ensures.ready;
    }
