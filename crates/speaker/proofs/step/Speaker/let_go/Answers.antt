use Rattle.std.proofs.Common.{refl, ap}
use Rattle.routing.specs.RoutesState.{RoutesState}
use Rattle.speaker.proofs.step.Speaker.let_go.Goals as goal

pub returns-clause-gone : goal.returns-clause-gone
returns-clause-gone g c = λ nobody shut.
    let rest = c.let_go.ensures.rest in
    rw (← c.self.view_is) (record {
      links = c.let_go.ensures.gone;
      routes = ap (λ (r : RoutesState). r.adj_in) rest;
      book = ap (λ (r : RoutesState). r.book) rest;
      chosen = ap (λ (r : RoutesState). r.chosen) rest;
      rest = record { config = refl; moment = refl; conf = ap (λ (r : RoutesState). r.conf) rest; cache = refl; payloads = c.let_go.ensures.payloads; chosen_before = refl };
    })
