use Rattle.std.proofs.Common.{length}
use Rattle.runs.specs.Agreement.{Hears}
use Rattle.runs.proofs.Coming.{HasCome}
use Rattle.speaker.proofs.step.Speaker.hear.Given as goal

abbrev pub invariant-loop-rest : goal.invariant-loop-rest
invariant-loop-rest g l = HasCome (Hears l.fn.slot) l.fn.octets l.rest l.initial.self l.self

abbrev pub decreases-loop-rest : goal.decreases-loop-rest
decreases-loop-rest g l = length l.rest
