use Rattle.std.proofs.Common.{length}
use Rattle.selection_reasons.proofs.reason.+fell_among.Given as goal

abbrev pub decreases-fell_among : goal.decreases-fell_among
decreases-fell_among l = length l.steps.now
