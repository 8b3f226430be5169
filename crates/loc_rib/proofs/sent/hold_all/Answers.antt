use Rattle.std.proofs.Common.{Some, false, refl, ◌∙◌}
use Rattle.rib_rows.specs.Records.{IsNeeded, IsPrepared}
use Rattle.loc_rib.proofs.SentSteps.{each_more, held_more, others_more, passed_more}
use Rattle.loc_rib.proofs.sent.hold_all.Goals as goal

pub loop-prefix-preserved : goal.loop-prefix-preserved
loop-prefix-preserved g c =
    let prefixes = c.args.prefixes.now in
    let i = c.loop-prefix.prefix-index in
    let x = c.prefix-item.result in
    let old = c.loop-prefix.rows.entries in
    let new = c.hold_in.new.rows.entries in
    let h = c.loop-prefix.invariant in
    record {
      rows = c.hold_in.ensures.rows;
      routed = λ p. c.hold_in.ensures.routed p ∙ h.routed p;
      held = λ p s. held_more prefixes i x c.loop-prefix-test.true c.prefix-item.is old new c.hold_in.ensures.others c.args.slot (λ o. Some (record { octets = c.args.sent.now; asked = false })) (λ o. refl) c.hold_in.ensures.held p s _ (h.held p s);
      others = others_more prefixes i x c.loop-prefix-test.true c.prefix-item.is old new c.hold_in.ensures.others c.args.rows.now.entries h.others;
      ready = each_more prefixes i x c.loop-prefix-test.true c.prefix-item.is old new c.hold_in.ensures.others (IsPrepared c.args.sent.now) h.ready c.hold_in.ensures.ready;
      needed = passed_more prefixes i x c.loop-prefix-test.true c.prefix-item.is old new c.hold_in.ensures.others IsNeeded h.needed c.hold_in.ensures.needed;
    }
