use Rattle.std.proofs.Common.{ap, ◌∙◌, slice_set, arith}
use Rattle.live_book.specs.NeighborBests.{moved}
use Rattle.live_book.proofs.PlaceBests.{mapped_next}
use Rattle.live_book.proofs.comparing.move_each.Goals as goal

pub loop-place-preserved : goal.loop-place-preserved
loop-place-preserved c =
    ap (slice_set c.loop-place.places c.loop-place.place-index) c.moved.ensures
    ∙ mapped_next (moved c.args.changes.now c.args.opened.now) c.args.places.now c.loop-place.places c.loop-place.place-index c.place-item.result (omega arith) (omega arith) c.loop-place.invariant
