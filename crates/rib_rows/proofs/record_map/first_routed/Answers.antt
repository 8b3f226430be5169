use Rattle.std.proofs.Common.{◌≡◌, ◌∷◌, rules, sym, ap, ◌∙◌}
use Rattle.prefix_trie.specs.TrieWalks.{first_key}
use Rattle.prefix_table.proofs.Picked.{first_passed, first_reached}
use Rattle.rib_rows.proofs.RowSteps.{is_some-to, none_from}
use Rattle.rib_rows.specs.Records.{PrefixRecord, routed}
use Rattle.rib_rows.proofs.record_map.first_routed.Goals as goal

pub returns-then-is_routed : goal.returns-then-is_routed
returns-then-is_routed g c =
    let steps : c.loop-prefix.prefix-iterator ≡ (c.in-Some.prefix, c.in-Some.record.now) ∷ c.next.new.self = search rules in
    sym (c.loop-prefix.invariant.0 ∙ ap (λ es. first_key (routed es)) steps
    ∙ first_reached (λ (r : PrefixRecord). r.row) (c.in-Some.prefix, c.in-Some.record.now) c.next.new.self (is_some-to c.in-Some.record.now.row (sym c.is_routed.ensures ∙ c.if-is_routed.true)))

pub loop-prefix-preserved : goal.loop-prefix-preserved
loop-prefix-preserved g c =
    let steps : c.loop-prefix.prefix-iterator ≡ (c.in-Some.prefix, c.in-Some.record.now) ∷ c.next.new.self = search rules in (
      c.loop-prefix.invariant.0 ∙ ap (λ es. first_key (routed es)) steps
          ∙ first_passed (λ (r : PrefixRecord). r.row) (c.in-Some.prefix, c.in-Some.record.now) c.next.new.self (none_from c.in-Some.record.now.row (sym c.is_routed.ensures ∙ c.if-is_routed.false)),
      tt,
      tt,
    )
