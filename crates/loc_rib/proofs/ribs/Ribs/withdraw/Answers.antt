use Rattle.std.proofs.Common.{subst, None, sym, ◌∙◌}
use Rattle.loc_rib.proofs.RowTables.{best_another, best_stays, forgotten_each, no_offer, offer_is, offers_lifted, routes_lifted}
use Rattle.rib_rows.specs.Records.{routed, sent_of}
use Rattle.rib_rows.proofs.RecordTables.{rows_routed}
use Rattle.loc_rib.specs.SentTables.{AreMarked}
use Rattle.loc_rib.proofs.ribs.Ribs.withdraw.Goals as goal

pub returns-clause-routes : goal.returns-clause-routes
returns-clause-routes g c =
    rw (← c.self.view_is) (routes_lifted None (routed c.self.inside.rows.entries) (routed c.withdraw_in.new.rows.entries) c.args.slot c.args.prefix c.withdraw_in.ensures.others c.withdraw_in.ensures.routes)

pub returns-clause-offers : goal.returns-clause-offers
returns-clause-offers g c =
    rw (← c.self.view_is) (offers_lifted None (routed c.self.inside.rows.entries) (routed c.withdraw_in.new.rows.entries) c.args.slot c.args.prefix c.withdraw_in.ensures.others c.withdraw_in.ensures.offers)

pub returns-clause-others : goal.returns-clause-others
returns-clause-others g c =
    rw (← c.self.view_is)
    (best_stays (routed c.self.inside.rows.entries) (routed c.withdraw_in.new.rows.entries) c.args.prefix (rows_routed c.self.inside.rows.entries c.self.invariant.0).0 (rows_routed c.withdraw_in.new.rows.entries c.withdraw_in.ensures.rows).0 c.withdraw_in.ensures.others)

pub returns-clause-forgotten : goal.returns-clause-forgotten
returns-clause-forgotten g c = forgotten_each (routed c.withdraw_in.new.rows.entries) (rows_routed c.withdraw_in.new.rows.entries c.withdraw_in.ensures.rows) c.args.prefix

pub returns-clause-another : goal.returns-clause-another
returns-clause-another g c =
    rw (← c.self.view_is) (λ another.
    c.withdraw_in.ensures.another (best_another (routed c.self.inside.rows.entries) (routed c.withdraw_in.new.rows.entries) c.args.prefix (rows_routed c.self.inside.rows.entries c.self.invariant.0).0 (rows_routed c.withdraw_in.new.rows.entries c.withdraw_in.ensures.rows).0 another))

pub returns-clause-unrouted : goal.returns-clause-unrouted
returns-clause-unrouted g c =
    rw (← c.self.view_is) (λ none. c.withdraw_in.ensures.never (no_offer (routed c.self.inside.rows.entries) (rows_routed c.self.inside.rows.entries c.self.invariant.0) c.args.slot c.args.prefix none))

pub returns-clause-never : goal.returns-clause-never
returns-clause-never g c =
    rw (← c.self.view_is) (λ none. c.withdraw_in.ensures.never (sym (offer_is (routed c.self.inside.rows.entries) c.args.slot c.args.prefix) ∙ none))

pub returns-clause-gone : goal.returns-clause-gone
returns-clause-gone g c =
    rw (← c.self.view_is) (λ some. c.withdraw_in.ensures.gone (λ none. some (offer_is (routed c.self.inside.rows.entries) c.args.slot c.args.prefix ∙ none)))

pub invariant_of-self : goal.invariant_of-self
invariant_of-self g c =
    (c.withdraw_in.ensures.rows, subst (λ sent. AreMarked sent c.self.inside.marks.holders c.self.inside.marks.askers c.self.inside.marks.all_asked) (sym c.withdraw_in.ensures.sent) c.self.invariant.1)
