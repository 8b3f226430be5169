use Rattle.std.proofs.Common.{refl, ap}
use Rattle.routing.specs.RoutesState.{RoutesState}
use Rattle.speaker.proofs.step.Speaker.push.Goals as goal

pub returns-clause-count : goal.returns-clause-count
returns-clause-count g c = λ l linked. c.push.ensures.count l (rw (← c.self.view_is) at linked)

pub returns-clause-pushes : goal.returns-clause-pushes
returns-clause-pushes g c = λ l linked.
    let here = rw (← c.self.view_is) at linked in
    let rest = c.push.ensures.rest in
    rw (← c.self.view_is) (record {
      links = c.push.ensures.puts l here;
      routes = ap (λ (r : RoutesState). r.adj_in) rest;
      book = ap (λ (r : RoutesState). r.book) rest;
      chosen = ap (λ (r : RoutesState). r.chosen) rest;
      rest = record { config = refl; moment = refl; conf = ap (λ (r : RoutesState). r.conf) rest; cache = refl; payloads = c.push.ensures.payloads; chosen_before = refl };
    })
