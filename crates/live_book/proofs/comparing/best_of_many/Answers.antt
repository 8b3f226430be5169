use Rattle.std.proofs.Common.{sym, subst, ◌∙◌}
use Rattle.decision.specs.Selection.{AreDistinct}
use Rattle.live_book.proofs.Rounds.{distinct_contenders}
use Rattle.live_book.proofs.comparing.best_of_many.Goals as goal

pub choose-requires : goal.choose-requires
choose-requires c = record {
  distinct = subst AreDistinct (sym (c.deref.ensures.0 ∙ c.contenders.ensures)) (distinct_contenders c.args.round c.args.places.now c.requires);
}
