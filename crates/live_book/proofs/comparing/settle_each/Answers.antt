use Rattle.std.proofs.Common.{sym, subst, arith}
use Rattle.decision.specs.KeptPlaces.{ArePlaces}
use Rattle.live_book.proofs.Rounds.{bests_settled}
use Rattle.live_book.proofs.comparing.settle_each.Goals as goal

pub returns-clause-bests : goal.returns-clause-bests
returns-clause-bests c =
    bests_settled c.loop-index.places (subst ArePlaces (sym c.loop-index.invariant.slots) c.requires.kept) c.loop-index.invariant.fair (λ k h. c.loop-index.invariant.closed k (omega arith))
