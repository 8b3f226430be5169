use Rattle.std.proofs.Common.{length}
use Rattle.std.specs.Option.{IsSome}
use Rattle.runs.specs.Agreement.{CacheHears}
use Rattle.runs.proofs.Coming.{HasCome}
use Rattle.speaker.proofs.step.Speaker.hear_cache.Given as goal

abbrev pub invariant-loop-rest : goal.invariant-loop-rest
invariant-loop-rest g l = HasCome CacheHears l.fn.octets l.rest l.initial.self l.self × IsSome l.self.cache

abbrev pub decreases-loop-rest : goal.decreases-loop-rest
decreases-loop-rest g l = length l.rest
