use Rattle.std.proofs.Common.{Option, None, get_or, slice_set, ap, ◌∙◌, arith}
use Rattle.decision.specs.declared.candidate.Candidate.{Candidate}
use Rattle.decision.proofs.PlaceLists.{changes_next}
use Rattle.decision.proofs.places.make_each.Goals as goal

pub loop-place-preserved : goal.loop-place-preserved
loop-place-preserved c =
    ap (λ (o : Option Candidate). slice_set c.loop-place.places c.loop-place.place-index ((get_or c.loop-place.places c.loop-place.place-index (0, None)).0, o)) c.after-place.ensures
    ∙ changes_next c.args.changes.now c.args.places.now c.loop-place.places c.loop-place.place-index (0, None) (omega arith) (omega arith) c.loop-place.invariant
