use Rattle.std.proofs.Common.{subst}
use Rattle.decision.specs.Selection.{AreDistinct}
use Rattle.live_book.proofs.Rounds.{distinct_contenders}
use Rattle.live_book.proofs.comparing.best_in.Goals as goal

pub choose-requires-in-Two : goal.choose-requires-in-Two
choose-requires-in-Two c = record {
  distinct = subst AreDistinct c.in-Two.ensures (distinct_contenders c.args.round c.args.places.now c.requires);
}
