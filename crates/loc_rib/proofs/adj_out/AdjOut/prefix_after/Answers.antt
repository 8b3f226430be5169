use Rattle.std.proofs.Common.{◌≡◌, ap, ◌∙◌}
use Rattle.prefix_trie.specs.TrieWalks.{all_after, first_key}
use Rattle.rib_out.proofs.HeldTables.{is_some_held, none_held, there_if_held}
use Rattle.rib_rows.proofs.RowSteps.{through_none, through_some}
use Rattle.loc_rib.proofs.RowFinds.{is_first}
use Rattle.loc_rib.specs.SentTables.{sent_to}
use Rattle.loc_rib.proofs.adj_out.AdjOut.prefix_after.Goals as goal

pub returns : goal.returns
returns g c =
    let slot = c.self.inside.slot in
    let held = sent_to c.self.inside.ribs.now.sent slot in
    let is : c.first_held.result ≡ first_key (all_after c.args.after held) = c.first_held.ensures ∙ ap first_key (c.records_after.ensures.sent slot) in
    let first = is_first c.args.after held (c.records_after.ensures.rising slot) c.first_held.result is in
    rw (← c.self.view_is) (record {
      held = through_some c.first_held.result _ _ first.has (λ p has. is_some_held held p ∙ has);
      above = first.above;
      least = through_some c.first_held.result _ _ first.least (λ p least q above has. least q above (there_if_held held q has));
      none = through_none c.first_held.result _ _ first.none (λ none q above. none_held held q (none q above));
    })
