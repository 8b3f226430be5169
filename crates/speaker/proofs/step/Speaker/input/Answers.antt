use Rattle.std.proofs.Common.{refl}
use Rattle.speaker.proofs.step.Speaker.input.Goals as goal

pub returns-clause-moves : goal.returns-clause-moves
returns-clause-moves g c = λ l linked.
    let here = rw (← c.self.view_is) at linked in
    let moves = c.input.ensures.moves l here in
    rw (← c.self.view_is) (record {
      links = moves.links;
      routes = moves.routes;
      offers = moves.offers;
      rest = record { config = refl; moment = refl; conf = c.input.ensures.conf; cache = refl; payloads = c.input.ensures.payloads; chosen_before = refl };
    })

pub returns-clause-chosen : goal.returns-clause-chosen
returns-clause-chosen g c = λ l linked.
    let here = rw (← c.self.view_is) at linked in
    let moves = c.input.ensures.moves l here in
    rw (← c.self.view_is) (record { ends = moves.ends; stays = moves.stays })

pub returns-clause-opened : goal.returns-clause-opened
returns-clause-opened g c = λ l linked. c.input.ensures.opened l (rw (← c.self.view_is) at linked)

pub returns-clause-none : goal.returns-clause-none
returns-clause-none g c = λ none.
    let here = rw (← c.self.view_is) at none in
    rw (← c.self.view_is, (c.input.ensures.none here).1) refl
