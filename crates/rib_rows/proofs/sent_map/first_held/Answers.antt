use Rattle.std.proofs.Common.{◌≡◌, ◌∷◌, rules, sym, ap, ◌∙◌}
use Rattle.std.specs.Option.{is_some}
use Rattle.prefix_trie.specs.TrieWalks.{first_key}
use Rattle.holdings.specs.Holdings.{held_by, octets_by}
use Rattle.prefix_table.proofs.Picked.{first_passed, first_reached}
use Rattle.rib_rows.proofs.RecordTables.{held_some, test_copied}
use Rattle.rib_rows.proofs.RowSteps.{is_some-to, none_from}
use Rattle.prefix_table.specs.Picked.{picked}
use Rattle.rib_rows.specs.Records.{PrefixRecord}
use Rattle.rib_rows.proofs.sent_map.first_held.Goals as goal

pub returns-then-is_some : goal.returns-then-is_some
returns-then-is_some g c =
    let r = c.in-Some.record.now in
    let steps : c.loop-prefix.prefix-iterator ≡ (c.in-Some.prefix, r) ∷ c.next.new.self = search rules in
    let test : is_some (held_by r.sent c.args.slot) ≡ c.is_some.result = held_some r.sent c.args.slot ∙ test_copied (octets_by r.sent c.args.slot) c.held.result c.is_some.result c.held.ensures c.is_some.ensures in
    sym (c.loop-prefix.invariant.0 ∙ ap (λ es. first_key (picked (λ (r : PrefixRecord). held_by r.sent c.args.slot) es)) steps
    ∙ first_reached (λ (r : PrefixRecord). held_by r.sent c.args.slot) (c.in-Some.prefix, r) c.next.new.self (is_some-to (held_by r.sent c.args.slot) (test ∙ c.if-is_some.true)))

pub loop-prefix-preserved : goal.loop-prefix-preserved
loop-prefix-preserved g c =
    let r = c.in-Some.record.now in
    let steps : c.loop-prefix.prefix-iterator ≡ (c.in-Some.prefix, r) ∷ c.next.new.self = search rules in
    let test : is_some (held_by r.sent c.args.slot) ≡ c.is_some.result = held_some r.sent c.args.slot ∙ test_copied (octets_by r.sent c.args.slot) c.held.result c.is_some.result c.held.ensures c.is_some.ensures in (
      c.loop-prefix.invariant.0 ∙ ap (λ es. first_key (picked (λ (r : PrefixRecord). held_by r.sent c.args.slot) es)) steps
          ∙ first_passed (λ (r : PrefixRecord). held_by r.sent c.args.slot) (c.in-Some.prefix, r) c.next.new.self (none_from (held_by r.sent c.args.slot) (test ∙ c.if-is_some.false)),
      tt,
      tt,
    )
