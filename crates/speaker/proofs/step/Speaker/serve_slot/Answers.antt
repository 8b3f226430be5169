use Rattle.std.proofs.Common.{sym, subst}
use Rattle.speaker.specs.Serving.{AreServedBelow}
use Rattle.speaker.proofs.step.Speaker.serve_slot.Goals as goal

pub serve_in_order-requires-clause-below : goal.serve_in_order-requires-clause-below
serve_in_order-requires-clause-below g c = subst (λ t. AreServedBelow t c.args.slot) (sym c.renew_queue.ensures) c.requires.below
