use Rattle.std.proofs.Common.{◌≡◌, ap, sym, ◌∙◌}
use Rattle.prefix_trie.specs.TrieWalks.{all_after}
use Rattle.holdings.specs.Holdings.{held_by}
use Rattle.prefix_table.specs.Picked.{picked}
use Rattle.rib_rows.specs.PrefixRows.{adj_in_of, book_of}
use Rattle.rib_rows.specs.Records.{routed}
use Rattle.loc_rib.proofs.RowFinds.{adj_in_from, book_from, read_from}
use Rattle.loc_rib.proofs.SentTables.{sent_read, sent_rising}
use Rattle.loc_rib.proofs.ribs.Ribs.records_after.Goals as goal

pub returns : goal.returns
returns g c =
    let es = c.self.inside.rows.entries in
    let is = c.range_after.ensures in
    rw (← c.self.view_is) (record {
      adj_in = ap (λ rows. adj_in_of (routed rows)) is ∙ adj_in_from c.args.after es;
      book = ap (λ rows. book_of (routed rows)) is ∙ book_from c.args.after es;
      sent = λ s. ap (picked (λ r. held_by r.sent s)) is ∙ read_from (λ r. held_by r.sent s) c.args.after es ∙ ap (all_after c.args.after) (sym (sent_read es s));
      rising = sent_rising es c.self.invariant.0.0;
    })
