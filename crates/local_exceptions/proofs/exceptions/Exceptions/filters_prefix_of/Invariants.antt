use Rattle.std.proofs.Common.{ℕ, ◌<◌}
use Rattle.local_exceptions.specs.FilterLengths.{NoneMatches, but_for}
use Rattle.local_exceptions.proofs.exceptions.Exceptions.filters_prefix_of.Given as goal

abbrev pub invariant-loop-len : goal.invariant-loop-len
invariant-loop-len g l = (len : ℕ) → len < l.len → NoneMatches (but_for l.but l.self.filters) l.payload len
