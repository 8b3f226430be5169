use Rattle.cache_desk.specs.Clerks.{state_of}
use Rattle.cache_desk.specs.Desks.{AttendsBelow}
use Rattle.cache_desk.proofs.clerk.Clerk.attend.Given as goal

-- those below this key were attended to
abbrev pub invariant-loop-key : goal.invariant-loop-key
invariant-loop-key g l = AttendsBelow g.P.Operators.wish g.P.Operators.line g.P.Operators.hears l.scene.now l.key (state_of l.fn.self) (state_of l.self)
