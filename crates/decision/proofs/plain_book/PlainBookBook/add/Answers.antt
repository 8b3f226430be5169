use Rattle.std.proofs.Common.{ap, ◌∙◌}
use Rattle.decision.proofs.PlaceLists.{best_added}
use Rattle.decision.proofs.plain_book.PlainBookBook.add.Goals as goal

pub returns-clause-best : goal.returns-clause-best
returns-clause-best g c = best_added _ c.args.slot c.self.inside.places.items c.add_place.new.places.items c.self.inside.best c.add_place.ensures.places ∙ ap (λ k. k.best) c.self.view_is
