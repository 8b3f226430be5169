use Rattle.std.proofs.Common.{◌≡◌, ◌∙◌, IsTrue, subst, arith}
use Rattle.decision.specs.BookContents.{changed}
use Rattle.live_book.proofs.PlaceBests.{idle_here}
use Rattle.live_book.proofs.places.are_idle.Goals as goal

pub returns-then-not-is_same : goal.returns-then-not-is_same
returns-then-not-is_same c = (
  λ t. cc,
  λ same.
      let idle : changed c.args.changes.now c.slot.result c.candidate-candidate.result ≡ c.candidate-candidate.result =
      rw (c.slot.ensures, c.candidate-candidate.ensures)
      (idle_here c.args.changes.now c.args.places.now c.loop-place.place-index c.place-item.result (omega arith) c.place-item.is same) in
      subst IsTrue c.if-not-is_same.true (c.is_same.ensures.1 (c.after.ensures ∙ idle)),
)
