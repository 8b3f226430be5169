use Rattle.std.proofs.Common.{None, arith}
use Rattle.decision.proofs.PlaceLists.{lookup_here, lookup_next}
use Rattle.decision.proofs.places.place_at.Goals as goal

pub returns-then-place-slot : goal.returns-then-place-slot
returns-then-place-slot c = lookup_here c.args.slot c.args.places.now c.loop-place.place-index (0, None) (omega arith) c.loop-place.invariant c.if-place-slot.true

pub loop-place-preserved : goal.loop-place-preserved
loop-place-preserved c = lookup_next c.args.slot c.args.places.now c.loop-place.place-index (0, None) (omega arith) c.loop-place.invariant c.if-place-slot.false
