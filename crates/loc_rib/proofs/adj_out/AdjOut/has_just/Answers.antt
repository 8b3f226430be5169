use Rattle.std.proofs.Common.{◌≡◌, Some, None, true, false, not, ap, sym, ◌∙◌}
use Rattle.rib_out.specs.Held.{asked_at, held_at}
use Rattle.loc_rib.proofs.SentTables.{asked_in, octets_in}
use Rattle.loc_rib.specs.SentTables.{sent_to}
use Rattle.loc_rib.proofs.adj_out.AdjOut.has_just.Goals as goal

pub returns-then-not-asked : goal.returns-then-not-asked
returns-then-not-asked g c =
    let held : held_at (sent_to c.self.inside.ribs.now.sent c.self.inside.slot) c.args.prefix ≡ Some c.in-Some.sent.now = ap octets_in c.in-Some.ensures.some in
    let asked : asked_at (sent_to c.self.inside.ribs.now.sent c.self.inside.slot) c.args.prefix ≡ c.in-Some.asked = ap asked_in c.in-Some.ensures.some in
    rw (← c.self.view_is) (λ h. (held ∙ ap Some (c.are.ensures.0 h), asked ∙ c.if-not-asked.true), λ both. c.are.ensures.1 (let same = sym held ∙ both.0 in cc))

pub returns-else-not-asked : goal.returns-else-not-asked
returns-else-not-asked g c =
    let asked : asked_at (sent_to c.self.inside.ribs.now.sent c.self.inside.slot) c.args.prefix ≡ c.in-Some.asked = ap asked_in c.in-Some.ensures.some in
    rw (← c.self.view_is) (
      λ h. absurd (let clash : true ≡ false = sym h ∙ ap not c.if-not-asked.false in cc),
      λ both. absurd (let clash : true ≡ false = sym c.if-not-asked.false ∙ sym asked ∙ both.1 in cc),
    )

pub returns-in-None : goal.returns-in-None
returns-in-None g c =
    let none : held_at (sent_to c.self.inside.ribs.now.sent c.self.inside.slot) c.args.prefix ≡ None = ap octets_in c.in-None.ensures.none in
    rw (← c.self.view_is) (λ h. absurd cc, λ both. absurd (let clash = sym none ∙ both.0 in cc))
