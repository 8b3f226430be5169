use Rattle.std.proofs.Common.{◌≡◌, ◌≤◌}
use Rattle.runs.specs.Agreement.{QueuesAll}
use Rattle.speaker.specs.Serving.{is_standing}
use Rattle.routing.specs.Tables.{link_at}
use Rattle.speaker.proofs.Standing.{count_standing}
use Rattle.speaker.proofs.step.Speaker.queue_updates.Given as goal

abbrev pub invariant-loop-slot : goal.invariant-loop-slot
invariant-loop-slot g l = QueuesAll l.starved l.initial.self l.self × (l.self.chosen_before ≡ l.initial.self.chosen_before) × (l.initial.self.chosen ≤ l.self.chosen)

abbrev pub decreases-loop-slot : goal.decreases-loop-slot
decreases-loop-slot g l = count_standing (λ s. is_standing (link_at l.self.links s)) 64
