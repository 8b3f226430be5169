use Rattle.std.proofs.Common.{ap, ◌∙◌}
use Rattle.live_book.proofs.Leaving.{added_bests, best_with_place}
use Rattle.live_book.proofs.many_places.ManyPlaces.add.Goals as goal

pub invariant_of-self-2 : goal.invariant_of-self-2
invariant_of-self-2 g c = added_bests _ c.args.slot c.self.inside.places.items c.add_place.new.places.items c.add_place.ensures.places c.self.invariant

pub returns-clause-best : goal.returns-clause-best
returns-clause-best g c = best_with_place _ c.args.slot c.self.inside.places.items c.add_place.new.places.items c.self.inside.best c.add_place.ensures.places ∙ ap (λ k. k.best) c.self.view_is
