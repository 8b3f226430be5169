use Rattle.std.proofs.Common.{◌≡◌, subst, sym}
use Rattle.std.specs.Option.{IsSome}
use Rattle.decision.specs.BookContents.{changed}
use Rattle.loc_rib.proofs.RowTables.{apart_rows, best_another, best_stays, changes_lifted, offer_is, route_is}
use Rattle.rib_rows.specs.Records.{routed, sent_of}
use Rattle.rib_rows.proofs.RecordTables.{rows_routed}
use Rattle.loc_rib.specs.SentTables.{AreMarked}
use Rattle.loc_rib.proofs.ribs.Ribs.change.Goals as goal

pub change_in-requires-clause-routed : goal.change_in-requires-clause-routed
change_in-requires-clause-routed g c =
    let there = rw (← c.self.view_is) at c.requires.routed in
    λ k d at. subst IsSome (route_is (routed c.self.inside.rows.entries) _ c.args.prefix) (there k d at)

pub change_in-requires-clause-apart : goal.change_in-requires-clause-apart
change_in-requires-clause-apart g c = apart_rows (routed c.self.inside.rows.entries) c.args.prefix c.args.changes.now (rw (← c.self.view_is) at c.requires.apart)

pub returns-clause-offers : goal.returns-clause-offers
returns-clause-offers g c =
    rw (← c.self.view_is) (changes_lifted (changed c.args.changes.now) (routed c.self.inside.rows.entries) (routed c.change_in.new.rows.entries) c.args.prefix c.change_in.ensures.others c.change_in.ensures.offers)

pub returns-clause-others : goal.returns-clause-others
returns-clause-others g c =
    rw (← c.self.view_is)
    (best_stays (routed c.self.inside.rows.entries) (routed c.change_in.new.rows.entries) c.args.prefix (rows_routed c.self.inside.rows.entries c.self.invariant.0).0 (rows_routed c.change_in.new.rows.entries c.change_in.ensures.rows).0 c.change_in.ensures.others)

pub returns-clause-another : goal.returns-clause-another
returns-clause-another g c =
    rw (← c.self.view_is) (λ another.
    c.change_in.ensures.another (best_another (routed c.self.inside.rows.entries) (routed c.change_in.new.rows.entries) c.args.prefix (rows_routed c.self.inside.rows.entries c.self.invariant.0).0 (rows_routed c.change_in.new.rows.entries c.change_in.ensures.rows).0 another))

pub returns-clause-same : goal.returns-clause-same
returns-clause-same g c =
    rw (← c.self.view_is) (λ same.
    c.change_in.ensures.same (λ s. subst (λ o. changed c.args.changes.now s o ≡ o) (offer_is (routed c.self.inside.rows.entries) s c.args.prefix) (same s)))

pub returns-clause-made : goal.returns-clause-made
returns-clause-made g c =
    rw (← c.self.view_is) (λ s another.
    c.change_in.ensures.made s (λ same. another (subst (λ o. changed c.args.changes.now s o ≡ o) (sym (offer_is (routed c.self.inside.rows.entries) s c.args.prefix)) same)))

pub invariant_of-self : goal.invariant_of-self
invariant_of-self g c =
    (c.change_in.ensures.rows, subst (λ sent. AreMarked sent c.self.inside.marks.holders c.self.inside.marks.askers c.self.inside.marks.all_asked) (sym c.change_in.ensures.sent) c.self.invariant.1)
