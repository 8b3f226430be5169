use Rattle.std.proofs.Common.{◌≡◌, ap, subst, sym, ◌∙◌}
use Rattle.prefix_trie.specs.TrieMap.{IsRising}
use Rattle.prefix_trie.specs.TrieWalks.{all_after}
use Rattle.rib_in.proofs.Behind.{rising_after}
use Rattle.rib_out.specs.Held.{HeldRoute, octets_of}
use Rattle.holdings.specs.Holdings.{octets_by}
use Rattle.prefix_table.specs.Picked.{picked}
use Rattle.loc_rib.proofs.RowFinds.{mapped_after}
use Rattle.loc_rib.proofs.SentTables.{octets_read, octets_rising}
use Rattle.loc_rib.specs.SentTables.{sent_to}
use Rattle.loc_rib.proofs.adj_out.AdjOut.held_after.Goals as goal

pub returns-clause-all : goal.returns-clause-all
returns-clause-all g c =
    let slot = c.self.inside.slot in
    rw (← c.self.view_is)
    (octets_read slot c.records_after.result ∙ ap octets_of (c.records_after.ensures.sent slot)
    ∙ mapped_after (λ (route : HeldRoute). route.octets) c.args.after (sent_to c.self.inside.ribs.now.sent slot))

pub returns-clause-rising : goal.returns-clause-rising
returns-clause-rising g c =
    let slot = c.self.inside.slot in
    let held = sent_to c.self.inside.ribs.now.sent slot in
    subst IsRising (sym (rw (← c.self.view_is) at (returns-clause-all g c))) (rising_after c.args.after (octets_of held) (octets_rising held (c.records_after.ensures.rising slot)))
