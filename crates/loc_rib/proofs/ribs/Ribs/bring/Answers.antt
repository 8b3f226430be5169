use Rattle.std.proofs.Common.{Some, ap, subst, sym, ◌∙◌}
use Rattle.std.specs.Option.{IsSome}
use Rattle.rib_rows.proofs.RowSteps.{through_back, through_brought, through_err}
use Rattle.loc_rib.proofs.RowTables.{best_of_other, offers_stay, route_is, routes_lifted}
use Rattle.rib_rows.specs.PrefixRows.{adj_in_of, book_of}
use Rattle.loc_rib.specs.RibTables.{RibTables}
use Rattle.rib_in.specs.LatestRoutes.{route_at}
use Rattle.rib_rows.specs.Records.{RecordTable, routed, sent_of}
use Rattle.rib_rows.proofs.RecordTables.{rows_routed}
use Rattle.loc_rib.specs.SentTables.{AreMarked}
use Rattle.loc_rib.proofs.ribs.Ribs.bring.Goals as goal

pub returns-clause-absent : goal.returns-clause-absent
returns-clause-absent g c =
    rw (← c.self.view_is)
    (through_brought c.bring_in.result _ _ c.bring_in.ensures.brought (λ is. route_is (routed c.self.inside.rows.entries) c.args.slot c.args.prefix ∙ is.0))

pub returns-clause-routes : goal.returns-clause-routes
returns-clause-routes g c =
    rw (← c.self.view_is)
    (through_brought c.bring_in.result _ _ c.bring_in.ensures.brought
    (λ is. routes_lifted (Some c.args.attrs.value) (routed c.self.inside.rows.entries) (routed c.bring_in.new.rows.entries) c.args.slot c.args.prefix c.bring_in.ensures.others is.1))

pub returns-clause-back : goal.returns-clause-back
returns-clause-back g c =
    let view : RecordTable → RibTables = λ es. record { adj_in = adj_in_of (routed es); book = book_of (routed es); chosen = c.self.inside.meter.count; sent = sent_of es } in
    rw (← c.self.view_is)
    (through_back c.bring_in.result _ _ c.bring_in.ensures.back
    (λ other is. (ap view is.0, is.1, subst IsSome (sym (route_is (routed c.self.inside.rows.entries) c.args.slot c.args.prefix)) is.2)))

pub returns-clause-err : goal.returns-clause-err
returns-clause-err g c =
    rw (← c.self.view_is) (through_err c.bring_in.result _ _ c.bring_in.ensures.err (λ same s p. ap (λ es. route_at (adj_in_of (routed es)) s p) same))

pub returns-clause-lacked : goal.returns-clause-lacked
returns-clause-lacked g c =
    rw (← c.self.view_is)
    (through_err c.bring_in.result _ _ c.bring_in.ensures.lacked (λ none. route_is (routed c.self.inside.rows.entries) c.args.slot c.args.prefix ∙ none))

pub returns-clause-offers : goal.returns-clause-offers
returns-clause-offers g c =
    rw (← c.self.view_is) (offers_stay (routed c.self.inside.rows.entries) (routed c.bring_in.new.rows.entries) c.args.prefix c.bring_in.ensures.others c.bring_in.ensures.offers)

pub returns-clause-other : goal.returns-clause-other
returns-clause-other g c =
    rw (← c.self.view_is)
    (through_brought c.bring_in.result _ _ c.bring_in.ensures.brought
    (λ is. best_of_other (routed c.self.inside.rows.entries) (rows_routed c.self.inside.rows.entries c.self.invariant.0) c.args.slot c.args.prefix (route_is (routed c.self.inside.rows.entries) c.args.slot c.args.prefix ∙ is.0)))

pub invariant_of-self : goal.invariant_of-self
invariant_of-self g c =
    (c.bring_in.ensures.rows, subst (λ sent. AreMarked sent c.self.inside.marks.holders c.self.inside.marks.askers c.self.inside.marks.all_asked) (sym c.bring_in.ensures.sent) c.self.invariant.1)
