use Rattle.std.proofs.Common.{◌≡◌, None, ap, sym, ◌∙◌}
use Rattle.std.specs.Option.{option_copied}
use Rattle.prefix_trie.specs.TrieMap.{found}
use Rattle.loc_rib.proofs.RowTables.{route_is, routed_each}
use Rattle.rib_rows.specs.PrefixRows.{route_of}
use Rattle.rib_rows.specs.Records.{routed, row_of}
use Rattle.rib_rows.proofs.RecordTables.{routed_found, rows_routed}
use Rattle.loc_rib.proofs.ribs.Ribs.route.Goals as goal

pub returns-in-Some-clause-route : goal.returns-in-Some-clause-route
returns-in-Some-clause-route g c =
    let there : found (routed c.self.inside.rows.entries) c.args.prefix ≡ c.in-Some.record.now.row =
    routed_found c.self.inside.rows.entries c.self.invariant.0.0 c.args.prefix ∙ ap row_of (sym c.get.ensures.value ∙ ap option_copied c.in-Some.is) in
    rw (← c.self.view_is) (c.get-in-Some.ensures ∙ ap (λ o. route_of o c.args.slot) (sym there) ∙ sym (route_is (routed c.self.inside.rows.entries) c.args.slot c.args.prefix))

pub returns-in-Some-clause-routed : goal.returns-in-Some-clause-routed
returns-in-Some-clause-routed g c = rw (← c.self.view_is) (routed_each (routed c.self.inside.rows.entries) (rows_routed c.self.inside.rows.entries c.self.invariant.0))

pub returns-in-None-clause-route : goal.returns-in-None-clause-route
returns-in-None-clause-route g c =
    let none : found (routed c.self.inside.rows.entries) c.args.prefix ≡ None =
    routed_found c.self.inside.rows.entries c.self.invariant.0.0 c.args.prefix ∙ ap row_of (sym c.get.ensures.value ∙ ap option_copied c.in-None.is) in
    rw (← c.self.view_is) (ap (λ o. route_of o c.args.slot) (sym none) ∙ sym (route_is (routed c.self.inside.rows.entries) c.args.slot c.args.prefix))

pub returns-in-None-clause-routed : goal.returns-in-None-clause-routed
returns-in-None-clause-routed g c = rw (← c.self.view_is) (routed_each (routed c.self.inside.rows.entries) (rows_routed c.self.inside.rows.entries c.self.invariant.0))
