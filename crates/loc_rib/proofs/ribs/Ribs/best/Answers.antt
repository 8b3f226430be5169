use Rattle.std.proofs.Common.{◌≡◌, None, ap, sym, ◌∙◌}
use Rattle.std.specs.Option.{option_copied}
use Rattle.prefix_trie.specs.TrieMap.{found}
use Rattle.loc_rib.proofs.RowTables.{best_is}
use Rattle.rib_rows.specs.PrefixRows.{best_of}
use Rattle.rib_rows.specs.Records.{routed, row_of}
use Rattle.rib_rows.proofs.RecordTables.{routed_found, rows_routed}
use Rattle.loc_rib.proofs.ribs.Ribs.best.Goals as goal

pub returns-in-Some : goal.returns-in-Some
returns-in-Some g c =
    let there : found (routed c.self.inside.rows.entries) c.args.prefix ≡ c.in-Some.record.now.row =
    routed_found c.self.inside.rows.entries c.self.invariant.0.0 c.args.prefix ∙ ap row_of (sym c.get.ensures.value ∙ ap option_copied c.in-Some.is) in
    rw (← c.self.view_is) (c.best.ensures ∙ ap best_of (sym there) ∙ sym (best_is (routed c.self.inside.rows.entries) (rows_routed c.self.inside.rows.entries c.self.invariant.0).0 c.args.prefix))

pub returns-in-None : goal.returns-in-None
returns-in-None g c =
    let none : found (routed c.self.inside.rows.entries) c.args.prefix ≡ None =
    routed_found c.self.inside.rows.entries c.self.invariant.0.0 c.args.prefix ∙ ap row_of (sym c.get.ensures.value ∙ ap option_copied c.in-None.is) in
    rw (← c.self.view_is) (ap best_of (sym none) ∙ sym (best_is (routed c.self.inside.rows.entries) (rows_routed c.self.inside.rows.entries c.self.invariant.0).0 c.args.prefix))
