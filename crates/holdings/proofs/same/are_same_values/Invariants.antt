use Rattle.std.proofs.Common.{◌≡◌}
use Rattle.holdings.proofs.same.are_same_values.Given as goal

-- both are the same where what is left is
abbrev pub invariant-loop-code : goal.invariant-loop-code
invariant-loop-code g l = l.code-iterator ≡ l.others → l.fn.a ≡ l.fn.b
