use Rattle.std.proofs.Common.{◌≡◌, All, None, Some, option_map, option_and_then, ap, sym, subst, ◌∙◌}
use Rattle.std.specs.Option.{IsSome, option_copied_mut}
use Rattle.decision.specs.BookContents.{AreApart, changed}
use Rattle.prefix_table.specs.Tables.{IsPut}
use Rattle.prefix_trie.specs.TrieMap.{found}
use Rattle.rib_rows.proofs.RecordTables.{record_changed, record_found, records_put, routes_picked, row_found, row_lacking, row_others, row_there, same_read, same_sent, sent_same, through_lent}
use Rattle.rib_rows.proofs.RowSteps.{offers_unplaced}
use Rattle.rib_rows.specs.PrefixRows.{best_of, offer_of, route_of}
use Rattle.rib_rows.specs.Records.{PrefixRecord, routed, sent_in}
use Rattle.rib_rows.proofs.record_map.change_in.Given.{Over}
use Rattle.rib_rows.proofs.record_map.change_in.Goals as goal
use Rattle.rib_rows.proofs.record_map.change_in.Goals.{After-rows-2-1}

pub returns-in_default-clause-offers : goal.returns-in_default-clause-offers
returns-in_default-clause-offers g c = λ s.
    let none : found c.args.rows.now.entries c.args.prefix ≡ None = sym c.get_mut.ensures.value ∙ ap option_copied_mut c.in_default.is in
    ap (λ es. offer_of (found (routed es) c.args.prefix) s) c.get_mut.follows.holds-at-none
    ∙ offers_unplaced c.args.changes.now (found (routed c.args.rows.now.entries) c.args.prefix) (row_lacking c.args.rows.now.entries c.args.prefix c.requires.rows.0 none) c.requires.routed s

pub returns-in_default-clause-made : goal.returns-in_default-clause-made
returns-in_default-clause-made g c = λ s another.
    let none : found c.args.rows.now.entries c.args.prefix ≡ None = sym c.get_mut.ensures.value ∙ ap option_copied_mut c.in_default.is in
    absurd
    (another
    (sym (offers_unplaced c.args.changes.now (found (routed c.args.rows.now.entries) c.args.prefix) (row_lacking c.args.rows.now.entries c.args.prefix c.requires.rows.0 none) c.requires.routed s)))

pub change-requires-clause-routed : goal.change-requires-clause-routed
change-requires-clause-routed g c =
    let had : found c.args.rows.now.entries c.args.prefix ≡ Some c.in-Some.record.now = sym c.get_mut.ensures.value ∙ ap option_copied_mut c.in-Some.is in
    subst (λ o. All (λ ch. IsSome (route_of o ch.slot)) c.args.changes.now) (row_there c.args.rows.now.entries c.args.prefix c.in-Some.record.now c.requires.rows.0 had) c.requires.routed

pub change-requires-clause-apart : goal.change-requires-clause-apart
change-requires-clause-apart g c =
    let had : found c.args.rows.now.entries c.args.prefix ≡ Some c.in-Some.record.now = sym c.get_mut.ensures.value ∙ ap option_copied_mut c.in-Some.is in
    subst (λ o. AreApart (λ s. changed c.args.changes.now s (offer_of o s))) (row_there c.args.rows.now.entries c.args.prefix c.in-Some.record.now c.requires.rows.0 had) c.requires.apart

had : (g : Over) (c : After-rows-2-1 g) → found c.args.rows.now.entries c.args.prefix ≡ Some c.in-Some.record.now
had g c = sym c.get_mut.ensures.value ∙ ap option_copied_mut c.in-Some.is

there : (g : Over) (c : After-rows-2-1 g) → found (routed c.args.rows.now.entries) c.args.prefix ≡ c.in-Some.record.now.row
there g c = row_there c.args.rows.now.entries c.args.prefix c.in-Some.record.now c.requires.rows.0 (had g c)

put : (g : Over) (c : After-rows-2-1 g) → IsPut c.args.rows.now.entries (c.get_mut.follows.lender c.change.new.self).entries c.args.prefix (Some c.change.new.self)
put g c = through_lent c.get_mut.result c.in-Some.record _ c.in-Some.is (c.get_mut.follows.holds c.change.new.self)

pub returns-clause-rows : goal.returns-clause-rows
returns-clause-rows g c =
    records_put (put g c) c.requires.rows
    (record_changed c.in-Some.record.now c.change.new.self (record_found c.args.rows.now.entries c.args.prefix c.in-Some.record.now c.requires.rows (had g c)) c.change.ensures.row
    c.change.ensures.routes c.change.ensures.sent)

pub returns-clause-others : goal.returns-clause-others
returns-clause-others g c = row_others (put g c)

pub returns-clause-routes : goal.returns-clause-routes
returns-clause-routes g c =
    routes_picked (c.get_mut.follows.lender c.change.new.self).entries
    ∙ same_read (put g c) (λ (r : PrefixRecord). option_map (λ row. row.routes) r.row)
    (c.change.ensures.routes ∙ ap (option_and_then (λ (r : PrefixRecord). option_map (λ row. row.routes) r.row)) (sym (had g c)))
    ∙ sym (routes_picked c.args.rows.now.entries)

pub returns-clause-offers : goal.returns-clause-offers
returns-clause-offers g c = λ s.
    ap (λ o. offer_of o s) (row_found (put g c)) ∙ c.change.ensures.offers s ∙ ap (λ o. changed c.args.changes.now s (offer_of o s)) (sym (there g c))

pub returns-clause-another : goal.returns-clause-another
returns-clause-another g c = λ another. c.change.ensures.another (λ same. another (ap best_of (row_found (put g c)) ∙ same ∙ ap best_of (sym (there g c))))

pub returns-clause-same : goal.returns-clause-same
returns-clause-same g c = λ same. c.change.ensures.same (λ s. subst (λ o. changed c.args.changes.now s (offer_of o s) ≡ offer_of o s) (there g c) (same s))

pub returns-clause-made : goal.returns-clause-made
returns-clause-made g c = λ s another.
    c.change.ensures.made s (λ same. another (subst (λ o. changed c.args.changes.now s (offer_of o s) ≡ offer_of o s) (sym (there g c)) same))

pub returns-clause-sent : goal.returns-clause-sent
returns-clause-sent g c = same_sent (put g c) (sent_same c.in-Some.record.now c.change.new.self c.change.ensures.sent ∙ ap (option_and_then sent_in) (sym (had g c)))
