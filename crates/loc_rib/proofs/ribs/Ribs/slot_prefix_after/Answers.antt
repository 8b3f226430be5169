use Rattle.std.proofs.Common.{◌≡◌, ap, ◌∙◌}
use Rattle.prefix_trie.specs.TrieWalks.{all_after, first_key}
use Rattle.rib_in.proofs.Behind.{next_prefix}
use Rattle.rib_in.specs.LatestRoutes.{routes_of}
use Rattle.loc_rib.proofs.RowFinds.{routes_from}
use Rattle.loc_rib.proofs.ribs.Ribs.slot_prefix_after.Goals as goal

pub returns : goal.returns
returns g c =
    let table = c.args.self.now.adj_in in
    let is : c.first_of_slot.result ≡ first_key (all_after c.args.after (routes_of c.args.slot table)) =
    c.first_of_slot.ensures ∙ ap (λ es. first_key (routes_of c.args.slot es)) c.records_after.ensures.adj_in ∙ ap first_key (routes_from c.args.slot c.args.after table) in
    let n = next_prefix c.args.slot c.args.after table c.rises.ensures.rising c.first_of_slot.result is in
    record { has = n.has; above = n.above; least = n.least; none = n.none }
