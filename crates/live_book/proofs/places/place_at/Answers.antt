use Rattle.std.proofs.Common.{Some, ◌∙◌, ap, arith, sym}
use Rattle.live_book.proofs.PlaceBests.{lookup_here, lookup_next}
use Rattle.live_book.proofs.places.place_at.Goals as goal

pub returns-then-slot : goal.returns-then-slot
returns-then-slot c =
    ap Some (c.candidate.ensures ∙ ap (λ p. p.candidate) c.place-item.is)
    ∙ lookup_here c.args.slot c.args.places.now c.loop-place.place-index c.place-item.result (omega arith) c.loop-place.invariant (sym (c.slot.ensures ∙ ap (λ p. p.slot) c.place-item.is) ∙ c.if-slot.true)

pub loop-place-preserved : goal.loop-place-preserved
loop-place-preserved c =
    lookup_next c.args.slot c.args.places.now c.loop-place.place-index c.place-item.result (omega arith) c.loop-place.invariant (λ e. c.if-slot.false (c.slot.ensures ∙ ap (λ p. p.slot) c.place-item.is ∙ e))
