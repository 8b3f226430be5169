use Rattle.std.proofs.Common.{ap, ◌∙◌, slice_set, arith}
use Rattle.live_book.specs.NeighborBests.{narrowed}
use Rattle.live_book.proofs.PlaceBests.{mapped_next}
use Rattle.live_book.proofs.comparing.narrow_each.Goals as goal

pub loop-place-preserved : goal.loop-place-preserved
loop-place-preserved c =
    ap (slice_set c.loop-place.places c.loop-place.place-index) c.narrowed.ensures
    ∙ mapped_next (narrowed c.args.neighbor c.args.best) c.args.places.now c.loop-place.places c.loop-place.place-index c.place-item.result (omega arith) (omega arith) c.loop-place.invariant
