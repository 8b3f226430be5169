use Rattle.std.proofs.Common.{Some, ap, subst, sym, ◌∙◌}
use Rattle.decision.specs.BookContents.{offer_at, rows_of}
use Rattle.rib_rows.proofs.RowSteps.{always_ok, apart_same, through_err, through_ok}
use Rattle.loc_rib.proofs.RowTables.{best_another, best_stays, offer_is, offers_lifted, route_is, routes_lifted}
use Rattle.rib_rows.specs.PrefixRows.{adj_in_of, book_of, offer_of}
use Rattle.prefix_trie.specs.TrieMap.{found}
use Rattle.rib_in.specs.LatestRoutes.{route_at}
use Rattle.rib_rows.specs.Records.{routed}
use Rattle.rib_rows.proofs.RecordTables.{rows_routed}
use Rattle.loc_rib.specs.SentTables.{AreMarked}
use Rattle.loc_rib.proofs.ribs.Ribs.announce.Goals as goal

pub announce_in-requires-clause-apart : goal.announce_in-requires-clause-apart
announce_in-requires-clause-apart g c =
    apart_same c.args.slot c.args.candidate (λ s. offer_at (book_of (routed c.self.inside.rows.entries)) s c.args.prefix) (offer_of (found (routed c.self.inside.rows.entries) c.args.prefix))
    (λ s. sym (offer_is (routed c.self.inside.rows.entries) s c.args.prefix)) (rw (← c.self.view_is) at c.requires.apart)

pub returns-clause-routes : goal.returns-clause-routes
returns-clause-routes g c =
    rw (← c.self.view_is)
    (through_ok c.announce_in.result _ _ c.announce_in.ensures.routes
    (routes_lifted (Some c.args.attrs.value) (routed c.self.inside.rows.entries) (routed c.announce_in.new.rows.entries) c.args.slot c.args.prefix c.announce_in.ensures.others))

pub returns-clause-offers : goal.returns-clause-offers
returns-clause-offers g c =
    rw (← c.self.view_is)
    (through_ok c.announce_in.result _ _ c.announce_in.ensures.offers
    (offers_lifted c.args.candidate (routed c.self.inside.rows.entries) (routed c.announce_in.new.rows.entries) c.args.slot c.args.prefix c.announce_in.ensures.others))

pub returns-clause-err : goal.returns-clause-err
returns-clause-err g c =
    rw (← c.self.view_is)
    (through_err c.announce_in.result _ _ c.announce_in.ensures.err
    (λ same. (λ s p. ap (λ es. route_at (adj_in_of (routed es)) s p) same.0, λ s p. ap (λ es. offer_at (book_of (routed es)) s p) same.0, ap (λ es. rows_of (book_of (routed es))) same.0)))

pub returns-clause-others : goal.returns-clause-others
returns-clause-others g c =
    rw (← c.self.view_is)
    (best_stays (routed c.self.inside.rows.entries) (routed c.announce_in.new.rows.entries) c.args.prefix (rows_routed c.self.inside.rows.entries c.self.invariant.0).0 (rows_routed c.announce_in.new.rows.entries c.announce_in.ensures.rows).0 c.announce_in.ensures.others)

pub returns-clause-absent : goal.returns-clause-absent
returns-clause-absent g c =
    rw (← c.self.view_is)
    (through_err c.announce_in.result _ _ c.announce_in.ensures.absent (λ none. route_is (routed c.self.inside.rows.entries) c.args.slot c.args.prefix ∙ none))

pub returns-clause-another : goal.returns-clause-another
returns-clause-another g c =
    rw (← c.self.view_is)
    (always_ok c.announce_in.result _ (λ another.
    c.announce_in.ensures.another (best_another (routed c.self.inside.rows.entries) (routed c.announce_in.new.rows.entries) c.args.prefix (rows_routed c.self.inside.rows.entries c.self.invariant.0).0 (rows_routed c.announce_in.new.rows.entries c.announce_in.ensures.rows).0 another)))

pub returns-clause-same : goal.returns-clause-same
returns-clause-same g c =
    rw (← c.self.view_is) (λ same. c.announce_in.ensures.same (sym (offer_is (routed c.self.inside.rows.entries) c.args.slot c.args.prefix) ∙ same))

pub returns-clause-made : goal.returns-clause-made
returns-clause-made g c =
    rw (← c.self.view_is)
    (through_ok c.announce_in.result _ _ c.announce_in.ensures.made
    (λ counts another. counts (λ same. another (offer_is (routed c.self.inside.rows.entries) c.args.slot c.args.prefix ∙ same))))

pub invariant_of-self : goal.invariant_of-self
invariant_of-self g c =
    (c.announce_in.ensures.rows, subst (λ sent. AreMarked sent c.self.inside.marks.holders c.self.inside.marks.askers c.self.inside.marks.all_asked) (sym c.announce_in.ensures.sent) c.self.invariant.1)
