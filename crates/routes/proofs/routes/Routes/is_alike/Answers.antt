use Rattle.std.proofs.Common.{◌∙◌, sym}
use Rattle.routes.proofs.FoundPeers.{adj_out_of}
use Rattle.routes.proofs.SlotMarks.{on_false-as, on_true-as}
use Rattle.routes.proofs.routes.Routes.is_alike.Goals as goal

pub returns-clause-due : goal.returns-clause-due
returns-clause-due g c =
    on_true-as c.is_new_to.result _ _ c.is_new_to.ensures.yes
    (λ news l linked established.
    let here = rw (← c.self.view_is) at linked in
    (c.if-not-is_exported_so.ensures.same, news l (adj_out_of c.self.inside.links.entries c.self.inside.routing.sent c.args.slot l here ∙ sym c.held.ensures)))

pub returns-clause-other : goal.returns-clause-other
returns-clause-other g c =
    on_false-as c.is_new_to.result _ _ c.is_new_to.ensures.no
    (λ never l linked established due.
    let here = rw (← c.self.view_is) at linked in
    never l (adj_out_of c.self.inside.links.entries c.self.inside.routing.sent c.args.slot l here ∙ sym c.held.ensures) due.1)
