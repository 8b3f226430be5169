use Rattle.rib_out.proofs.queues.SlotQueues.next.Goals as goal

pub returns-in_err-first-clause-none : goal.returns-in_err-first-clause-none
returns-in_err-first-clause-none g c =
    let h = rw c.queue.ensures at (c.range-above.ensures.in_range tt) in
    rw c.from_residual.ensures (λ q above. h.5 c.in_err-first.ensures.steps.0 q ((c.start.ensures q).1 above, tt))

pub returns-clause-has : goal.returns-clause-has
returns-clause-has g c =
    let h = rw (c.in_ok-first.ensures.steps, c.queue.ensures) at (c.range-above.ensures.in_range tt) in
    h.1.1

pub returns-clause-least : goal.returns-clause-least
returns-clause-least g c =
    let h = rw (c.in_ok-first.ensures.steps, c.queue.ensures) at (c.range-above.ensures.in_range tt) in
    λ q above there. h.2 q ((c.start.ensures q).1 above, tt) there
