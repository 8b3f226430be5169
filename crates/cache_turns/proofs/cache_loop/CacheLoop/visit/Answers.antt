use Rattle.std.proofs.Common.{◌<◌, sym, subst, ◌∙◌, length}
use Rattle.cache_turns.specs.Turns.{Turns, Visits}
use Rattle.cache_turns.proofs.Standing.{each_other, visited}
use Rattle.cache_turns.proofs.cache_loop.CacheLoop.visit.Goals as goal

pub invariant_of-self-2 : goal.invariant_of-self-2
invariant_of-self-2 g c =
    each_other c.self.inside.cache c.visit-visit.new.cache c.self.inside.links.items c.take_out.new.places.items c.args.client c.self.invariant c.take_out.ensures.left c.visit-visit.ensures.others

pub returns-clause-visits : goal.returns-clause-visits
returns-clause-visits g c =
    let client = c.args.client in
    let visit = c.visit-visit in
    subst (λ (t : Turns). Visits c.args.now t client c.settle.new.self) c.self.view_is
    (visited c.args.now _ c.settle.new.self c.take_out.new.places.items client c.in-Some.link visit.new.self visit.result (record { wire = g.W.Wire.state visit.new.wire; cache = visit.new.cache })
    (sym c.take_out.ensures.taken ∙ c.in-Some.is)
    (subst (λ (t : Turns). client < length t.links) (sym c.self.view_is) c.requires.place)
    c.take_out.ensures.left
    visit.ensures.attends
    c.settle.ensures.patience
    c.settle.ensures.counts
    c.settle.ensures.tells
    c.settle.ensures.links)
