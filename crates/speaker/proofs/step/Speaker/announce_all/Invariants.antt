use Rattle.speaker.specs.Export.{export_to}
use Rattle.speaker.specs.Serving.{IsHad}
use Rattle.speaker.proofs.Serving.{Walks}
use Rattle.routing.proofs.Places.{left_above}
use Rattle.speaker.proofs.step.Speaker.announce_all.Given as goal

abbrev pub invariant-loop-prefix : goal.invariant-loop-prefix
invariant-loop-prefix g l = Walks (IsHad (export_to l.initial.self l.fn.slot)) l.fn.slot l.initial.self l.after l.self

abbrev pub decreases-loop-prefix : goal.decreases-loop-prefix
decreases-loop-prefix g l = left_above l.after
