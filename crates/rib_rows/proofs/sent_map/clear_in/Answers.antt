use Rattle.std.proofs.Common.{ap, ◌∙◌}
use Rattle.prefix_trie.specs.TrieWalks.{first_key}
use Rattle.rib_in.proofs.SlotWalks.{left-smaller}
use Rattle.rib_rows.proofs.SentWalks.{above_last, cleared, cleared_none, walked, walks_more}
use Rattle.rib_rows.proofs.sent_map.clear_in.Goals as goal

pub loop-prefix-smaller : goal.loop-prefix-smaller
loop-prefix-smaller g c =
    let first = c.in-Some.ensures.first ∙ ap first_key c.range_after.ensures in
    left-smaller c.loop-prefix.after c.in-Some.prefix c.in-Some.ensures.address
    (above_last (cleared c.args.slot) (cleared_none c.args.slot) c.loop-prefix.after _ _ c.loop-prefix.invariant c.in-Some.prefix first)

pub loop-prefix-preserved : goal.loop-prefix-preserved
loop-prefix-preserved g c =
    let first = c.in-Some.ensures.first ∙ ap first_key c.range_after.ensures in
    let did = c.drop_in.ensures in
    walks_more (cleared c.args.slot) (cleared_none c.args.slot) c.loop-prefix.after _ _ c.loop-prefix.invariant c.in-Some.prefix _ first
    (record { rows = did.rows; others = did.others; same = did.routed; held = did.held })

pub returns-clause-held : goal.returns-clause-held
returns-clause-held g c =
    walked (cleared c.args.slot) (cleared_none c.args.slot) c.loop-prefix.after _ _ c.loop-prefix.invariant (c.in_default.ensures.first ∙ ap first_key c.range_after.ensures)
