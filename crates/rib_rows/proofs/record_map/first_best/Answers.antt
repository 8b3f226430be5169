use Rattle.std.proofs.Common.{◌≡◌, ◌∷◌, slice_get, rules, sym, ap, ◌∙◌}
use Rattle.prefix_table.proofs.Picked.{picked_none, picked_some}
use Rattle.rib_rows.proofs.RecordTables.{best_picked}
use Rattle.prefix_table.specs.Picked.{picked}
use Rattle.rib_rows.specs.PrefixRows.{best_of}
use Rattle.rib_rows.specs.Records.{PrefixRecord}
use Rattle.rib_rows.proofs.record_map.first_best.Goals as goal

pub loop-prefix-init : goal.loop-prefix-init
loop-prefix-init g c =
    let same : c.into_iter-prefix-iterator.result ≡ c.args.range = search rules in
    (ap (λ es. slice_get es 0) (best_picked c.args.range) ∙ ap (λ es. slice_get (picked (λ (r : PrefixRecord). best_of r.row) es) 0) (sym same), tt, tt)

pub returns-in-Some-best : goal.returns-in-Some-best
returns-in-Some-best g c =
    let r = c.in-Some.record.now in
    let steps : c.loop-prefix.prefix-iterator ≡ (c.in-Some.prefix, r) ∷ c.next.new.self = search rules in
    sym (c.loop-prefix.invariant.0 ∙ ap (λ es. slice_get (picked (λ (r : PrefixRecord). best_of r.row) es) 0) steps
    ∙ ap (λ es. slice_get es 0) (picked_some (λ (r : PrefixRecord). best_of r.row) (c.in-Some.prefix, r) c.next.new.self c.in-Some-best.best (sym c.best.ensures ∙ c.in-Some-best.is)))

pub loop-prefix-preserved : goal.loop-prefix-preserved
loop-prefix-preserved g c =
    let r = c.in-Some.record.now in
    let steps : c.loop-prefix.prefix-iterator ≡ (c.in-Some.prefix, r) ∷ c.next.new.self = search rules in (
      c.loop-prefix.invariant.0 ∙ ap (λ es. slice_get (picked (λ (r : PrefixRecord). best_of r.row) es) 0) steps
          ∙ ap (λ es. slice_get es 0) (picked_none (λ (r : PrefixRecord). best_of r.row) (c.in-Some.prefix, r) c.next.new.self (sym c.best.ensures ∙ c.in_default.is)),
      tt,
      tt,
    )
