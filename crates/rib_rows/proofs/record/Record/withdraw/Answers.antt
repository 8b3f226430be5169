use Rattle.std.proofs.Common.{◌≡◌, ◌==◌, if◌then◌else◌, None, Some, true, ap, sym, subst, ◌∙◌}
use Rattle.std.specs.Option.{IfSome}
use Rattle.rib_in.specs.PrefixRoutes.{is_only}
use Rattle.rib_rows.proofs.RowSteps.{only_offer, only_route}
use Rattle.rib_rows.specs.PrefixRows.{IsRow, offer_of, route_of}
use Rattle.rib_rows.specs.Records.{PrefixRecord}
use Rattle.rib_rows.proofs.record.Record.withdraw.Given.{Over}
use Rattle.rib_rows.proofs.record.Record.withdraw.Goals as goal
use Rattle.rib_rows.proofs.record.Record.withdraw.Goals.{Joined-take}

there : (g : Over) (c : Joined-take g) → c.args.self.now.row ≡ Some c.in-Some.row
there g c = ap (λ (r : PrefixRecord). r.row) (sym c.self.view_is) ∙ c.in-Some.is

only : (g : Over) (c : Joined-take g) → is_only c.args.slot c.in-Some.row.routes ≡ true
only g c = sym c.is_only.ensures ∙ c.if-not-is_only.false

pub returns-clause-routes : goal.returns-clause-routes
returns-clause-routes g c = λ s.
    ap (λ o. route_of o s) c.take.ensures.after ∙ sym (only_route c.args.slot c.in-Some.row.routes (only g c) s)
    ∙ ap (λ o. if c.args.slot == s then None else route_of o s) (sym (there g c))

pub returns-clause-offers : goal.returns-clause-offers
returns-clause-offers g c = λ s.
    ap (λ o. offer_of o s) c.take.ensures.after ∙ sym (only_offer c.args.slot c.in-Some.row (subst (λ o. IfSome o IsRow) (there g c) c.requires) (only g c) s)
    ∙ ap (λ o. if c.args.slot == s then None else offer_of o s) (sym (there g c))
