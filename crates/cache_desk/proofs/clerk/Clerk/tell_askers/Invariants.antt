use Rattle.std.proofs.Common.{◌≡◌}
use Rattle.cache_desk.specs.Clerks.{state_of}
use Rattle.cache_desk.specs.Desks.{ToldBelow}
use Rattle.cache_desk.proofs.clerk.Clerk.tell_askers.Given as goal

-- those below this key who asked were told what stands on the page
abbrev pub invariant-loop-key : goal.invariant-loop-key
invariant-loop-key g l =
    ToldBelow g.P.Operators.hears l.fn.self.askers l.fn.self.page.items l.key l.fn.self.operators l.self.operators
    × (l.self.page ≡ l.fn.self.page)
    × (state_of l.self ≡ record (state_of l.fn.self) { operators = l.self.operators })
