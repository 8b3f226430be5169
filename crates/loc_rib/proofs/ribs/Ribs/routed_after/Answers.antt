use Rattle.std.proofs.Common.{◌≡◌, None, Some, IfNone, IfSome, ap, sym, ◌∙◌}
use Rattle.prefix_trie.specs.TrieWalks.{all_after, first_key}
use Rattle.rib_in.specs.LatestRoutes.{route_among}
use Rattle.rib_rows.proofs.RowSteps.{through_none, through_some}
use Rattle.loc_rib.proofs.RowFinds.{first_mapped, is_first, routes_there}
use Rattle.loc_rib.proofs.ribs.Ribs.routed_after.Goals as goal

pub returns : goal.returns
returns g c =
    let table = c.args.self.now.adj_in in
    let is : c.first_routed.result ≡ first_key (all_after c.args.after table) =
    c.first_routed.ensures ∙ sym (first_mapped (λ r. r.routes) _) ∙ ap first_key c.records_after.ensures.adj_in in
    let first = is_first c.args.after table c.rises.ensures.rising c.first_routed.result is in
    record {
      has = through_some c.first_routed.result _ _ first.has (λ p has. c.rises.ensures.routed p has);
      above = first.above;
      least = through_some c.first_routed.result _ _ first.least (λ p least s q above has. least q above (routes_there _ s has));
      none = through_none c.first_routed.result _ _ first.none (λ none s q above. ap (λ o. route_among o s) (none q above));
    }
