use Rattle.std.proofs.Common.{◌≡◌, None, ap, sym, ◌∙◌}
use Rattle.std.specs.Option.{option_copied}
use Rattle.prefix_trie.specs.TrieMap.{found}
use Rattle.rib_rows.proofs.RowSteps.{through_none, through_some}
use Rattle.loc_rib.proofs.RowTables.{best_is, route_is}
use Rattle.rib_rows.specs.PrefixRows.{best_of, route_of}
use Rattle.rib_rows.specs.Records.{routed, row_of}
use Rattle.rib_rows.proofs.RecordTables.{routed_found, rows_routed}
use Rattle.loc_rib.proofs.ribs.Ribs.best_route.Goals as goal

pub returns-in-Some-clause-none : goal.returns-in-Some-clause-none
returns-in-Some-clause-none g c =
    let there : found (routed c.self.inside.rows.entries) c.args.prefix ≡ c.in-Some.record.now.row =
    routed_found c.self.inside.rows.entries c.self.invariant.0.0 c.args.prefix ∙ ap row_of (sym c.get.ensures.value ∙ ap option_copied c.in-Some.is) in
    rw (← c.self.view_is)
    (through_none c.best_route.result _ _ c.best_route.ensures.none
    (λ none. best_is (routed c.self.inside.rows.entries) (rows_routed c.self.inside.rows.entries c.self.invariant.0).0 c.args.prefix ∙ ap best_of there ∙ none))

pub returns-in-Some-clause-some : goal.returns-in-Some-clause-some
returns-in-Some-clause-some g c =
    let there : found (routed c.self.inside.rows.entries) c.args.prefix ≡ c.in-Some.record.now.row =
    routed_found c.self.inside.rows.entries c.self.invariant.0.0 c.args.prefix ∙ ap row_of (sym c.get.ensures.value ∙ ap option_copied c.in-Some.is) in
    rw (← c.self.view_is)
    (through_some c.best_route.result _ _ c.best_route.ensures.some
    (λ r is. (
      best_is (routed c.self.inside.rows.entries) (rows_routed c.self.inside.rows.entries c.self.invariant.0).0 c.args.prefix ∙ ap best_of there ∙ is.0,
      route_is (routed c.self.inside.rows.entries) r.0.slot c.args.prefix ∙ ap (λ o. route_of o r.0.slot) there ∙ is.1,
    )))

pub returns-in-None-clause-none : goal.returns-in-None-clause-none
returns-in-None-clause-none g c =
    let none : found (routed c.self.inside.rows.entries) c.args.prefix ≡ None =
    routed_found c.self.inside.rows.entries c.self.invariant.0.0 c.args.prefix ∙ ap row_of (sym c.get.ensures.value ∙ ap option_copied c.in-None.is) in
    rw (← c.self.view_is) (best_is (routed c.self.inside.rows.entries) (rows_routed c.self.inside.rows.entries c.self.invariant.0).0 c.args.prefix ∙ ap best_of none)
