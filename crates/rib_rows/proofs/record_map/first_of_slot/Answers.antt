use Rattle.std.proofs.Common.{◌≡◌, ◌∷◌, rules, sym, ap, ◌∙◌}
use Rattle.std.specs.Option.{is_some}
use Rattle.prefix_trie.specs.TrieWalks.{first_key}
use Rattle.prefix_table.proofs.Picked.{first_passed, first_reached}
use Rattle.rib_rows.proofs.RecordTables.{slot_picked, test_copied}
use Rattle.rib_rows.proofs.RowSteps.{is_some-to, none_from}
use Rattle.prefix_table.specs.Picked.{picked}
use Rattle.rib_rows.specs.PrefixRows.{route_of}
use Rattle.rib_rows.specs.Records.{PrefixRecord}
use Rattle.rib_rows.proofs.record_map.first_of_slot.Goals as goal

pub loop-prefix-init : goal.loop-prefix-init
loop-prefix-init g c =
    let same : c.into_iter-prefix-iterator.result ≡ c.args.range = search rules in
    (ap first_key (slot_picked c.args.slot c.args.range) ∙ ap (λ es. first_key (picked (λ (r : PrefixRecord). route_of r.row c.args.slot) es)) (sym same), tt, tt)

pub returns-then-is_some : goal.returns-then-is_some
returns-then-is_some g c =
    let r = c.in-Some.record.now in
    let steps : c.loop-prefix.prefix-iterator ≡ (c.in-Some.prefix, r) ∷ c.next.new.self = search rules in
    let test : is_some (route_of r.row c.args.slot) ≡ c.is_some.result = test_copied (route_of r.row c.args.slot) c.get.result c.is_some.result c.get.ensures c.is_some.ensures in
    sym (c.loop-prefix.invariant.0 ∙ ap (λ es. first_key (picked (λ (r : PrefixRecord). route_of r.row c.args.slot) es)) steps
    ∙ first_reached (λ (r : PrefixRecord). route_of r.row c.args.slot) (c.in-Some.prefix, r) c.next.new.self (is_some-to (route_of r.row c.args.slot) (test ∙ c.if-is_some.true)))

pub loop-prefix-preserved : goal.loop-prefix-preserved
loop-prefix-preserved g c =
    let r = c.in-Some.record.now in
    let steps : c.loop-prefix.prefix-iterator ≡ (c.in-Some.prefix, r) ∷ c.next.new.self = search rules in
    let test : is_some (route_of r.row c.args.slot) ≡ c.is_some.result = test_copied (route_of r.row c.args.slot) c.get.result c.is_some.result c.get.ensures c.is_some.ensures in (
      c.loop-prefix.invariant.0 ∙ ap (λ es. first_key (picked (λ (r : PrefixRecord). route_of r.row c.args.slot) es)) steps
          ∙ first_passed (λ (r : PrefixRecord). route_of r.row c.args.slot) (c.in-Some.prefix, r) c.next.new.self (none_from (route_of r.row c.args.slot) (test ∙ c.if-is_some.false)),
      tt,
      tt,
    )
