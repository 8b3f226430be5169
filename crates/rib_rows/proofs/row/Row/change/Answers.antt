use Rattle.std.proofs.Common.{ap, refl, sym, ◌∙◌}
use Rattle.decision.specs.BookContents.{candidate_of}
use Rattle.rib_rows.specs.PrefixRows.{PrefixRow}
use Rattle.rib_rows.proofs.RowSteps.{change_apart, change_idle, change_offers, row_changed}
use Rattle.rib_rows.proofs.row.Row.change.Goals as goal

pub change-requires-clause-apart : goal.change-requires-clause-apart
change-requires-clause-apart g c =
    change_apart c.args.changes.now (record { routes = c.self.inside.routes; kept = g.B.Book.kept c.self.inside.book }) c.self.invariant (rw (← c.self.view_is) at c.requires.routed) (rw (← c.self.view_is) at c.requires.apart)

pub invariant_of-self : goal.invariant_of-self
invariant_of-self g c =
    row_changed c.args.changes.now (record { routes = c.self.inside.routes; kept = g.B.Book.kept c.self.inside.book }) (record { routes = c.self.inside.routes; kept = g.B.Book.kept c.change.new.self }) c.self.invariant
    refl c.change.ensures.places c.change.ensures.kept

pub returns-clause-offers : goal.returns-clause-offers
returns-clause-offers g c =
    rw (c.change.ensures.places, ← c.self.view_is)
    (change_offers c.args.changes.now (record { routes = c.self.inside.routes; kept = g.B.Book.kept c.self.inside.book }) c.self.invariant (rw (← c.self.view_is) at c.requires.routed))

pub returns-clause-same : goal.returns-clause-same
returns-clause-same g c = λ same.
    c.change.ensures.never (change_idle c.args.changes.now (record { routes = c.self.inside.routes; kept = g.B.Book.kept c.self.inside.book }) c.self.invariant (rw (← c.self.view_is) at same))

pub returns-clause-made : goal.returns-clause-made
returns-clause-made g c =
    let row : PrefixRow = record { routes = c.self.inside.routes; kept = g.B.Book.kept c.self.inside.book } in
    let routed = rw (← c.self.view_is) at c.requires.routed in
    rw (← c.self.view_is) (λ s another.
    c.change.ensures.made (λ same. another (sym (change_offers c.args.changes.now row c.self.invariant routed s) ∙ ap (λ ps. candidate_of ps s) same)))

pub returns-clause-row : goal.returns-clause-row
returns-clause-row g c =
    row_changed c.args.changes.now (record { routes = c.self.inside.routes; kept = g.B.Book.kept c.self.inside.book }) (record { routes = c.self.inside.routes; kept = g.B.Book.kept c.change.new.self }) c.self.invariant
    refl c.change.ensures.places c.change.ensures.kept
