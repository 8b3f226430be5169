use Rattle.payload_lists.proofs.Reading.{consumes_more, is_front}
use Rattle.payload_lists.proofs.front.read_front.Goals as goal

pub returns-then-branch-clause-front : goal.returns-then-branch-clause-front
returns-then-branch-clause-front g c =
    let (piece, more, taken, ends) = c.in_ok-reads_on.ensures.piece in
    is_front _ _ c.loop.front.items piece _ (consumes_more _ _ _ c.loop.front.items piece _ c.loop.invariant taken more) more (ends c.if-branch.true)
