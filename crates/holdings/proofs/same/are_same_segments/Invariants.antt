use Rattle.std.proofs.Common.{◌≡◌, length}
use Rattle.holdings.proofs.same.are_same_segments.Given as goal

-- both are the same where what is left is
abbrev pub invariant-loop-rest : goal.invariant-loop-rest
invariant-loop-rest g l = l.rest ≡ l.others → l.fn.a ≡ l.fn.b

abbrev pub decreases-loop-rest : goal.decreases-loop-rest
decreases-loop-rest g l = length l.rest
