use Rattle.std.proofs.Common.{◌≡◌, All, None, Some, ap, sym, subst, ◌∙◌}
use Rattle.std.specs.Option.{IsSome}
use Rattle.decision.specs.BookContents.{AreApart, changed}
use Rattle.rib_rows.proofs.RowSteps.{offers_unplaced}
use Rattle.rib_rows.specs.PrefixRows.{offer_of, route_of}
use Rattle.rib_rows.specs.Records.{PrefixRecord}
use Rattle.rib_rows.proofs.record.Record.change.Given.{Over}
use Rattle.rib_rows.proofs.record.Record.change.Goals as goal
use Rattle.rib_rows.proofs.record.Record.change.Goals.{In_default}

-- where there is no row
none : (g : Over) (c : In_default g) → c.args.self.now.row ≡ None
none g c = ap (λ (r : PrefixRecord). r.row) (sym c.self.view_is) ∙ c.in_default.is

pub returns-in_default-clause-offers : goal.returns-in_default-clause-offers
returns-in_default-clause-offers g c = λ s.
    ap (λ (r : PrefixRecord). offer_of r.row s) c.self.view_is ∙ offers_unplaced c.args.changes.now c.args.self.now.row (none g c) c.requires.routed s

pub returns-in_default-clause-made : goal.returns-in_default-clause-made
returns-in_default-clause-made g c = λ s another. absurd (another (sym (offers_unplaced c.args.changes.now c.args.self.now.row (none g c) c.requires.routed s)))

-- and where there is one
pub change-requires-clause-routed : goal.change-requires-clause-routed
change-requires-clause-routed g c =
    let there : c.args.self.now.row ≡ Some c.in-Some.row = ap (λ (r : PrefixRecord). r.row) (sym c.self.view_is) ∙ c.in-Some.is in
    subst (λ o. All (λ ch. IsSome (route_of o ch.slot)) c.args.changes.now) there c.requires.routed

pub change-requires-clause-apart : goal.change-requires-clause-apart
change-requires-clause-apart g c =
    let there : c.args.self.now.row ≡ Some c.in-Some.row = ap (λ (r : PrefixRecord). r.row) (sym c.self.view_is) ∙ c.in-Some.is in
    subst (λ o. AreApart (λ s. changed c.args.changes.now s (offer_of o s))) there c.requires.apart

pub returns-clause-same : goal.returns-clause-same
returns-clause-same g c = λ same.
    let there : c.args.self.now.row ≡ Some c.in-Some.row = ap (λ (r : PrefixRecord). r.row) (sym c.self.view_is) ∙ c.in-Some.is in
    c.change.ensures.same (λ s. subst (λ o. changed c.args.changes.now s (offer_of o s) ≡ offer_of o s) there (same s))
