use Rattle.std.proofs.Common.{◌≡◌, Some, None, ap, sym, ◌∙◌}
use Rattle.rib_out.specs.Held.{held_at}
use Rattle.loc_rib.proofs.SentTables.{octets_in}
use Rattle.loc_rib.specs.SentTables.{sent_to}
use Rattle.loc_rib.proofs.adj_out.AdjOut.holds.Goals as goal

pub returns-in-Some : goal.returns-in-Some
returns-in-Some g c =
    let held : held_at (sent_to c.self.inside.ribs.now.sent c.self.inside.slot) c.args.prefix ≡ Some c.in-Some.sent.now = ap octets_in c.in-Some.ensures.some in
    rw (← c.self.view_is) (λ h. held ∙ ap Some (c.are.ensures.0 h), λ is. c.are.ensures.1 (let same = sym held ∙ is in cc))

pub returns-in-None : goal.returns-in-None
returns-in-None g c =
    let none : held_at (sent_to c.self.inside.ribs.now.sent c.self.inside.slot) c.args.prefix ≡ None = ap octets_in c.in-None.ensures.none in
    rw (← c.self.view_is) (λ h. absurd cc, λ is. absurd (let clash = sym none ∙ is in cc))
