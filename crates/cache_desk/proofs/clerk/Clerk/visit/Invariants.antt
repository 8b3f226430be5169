use Rattle.cache_desk.specs.Desks.{NobodyWaits}
use Rattle.cache_desk.proofs.clerk.Clerk.visit.Given as goal

-- none below this key waits for anything
abbrev pub invariant-loop-key : goal.invariant-loop-key
invariant-loop-key g l = NobodyWaits g.P.Operators.wish l.self.operators l.key
