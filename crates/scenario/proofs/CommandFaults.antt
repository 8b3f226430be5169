use Rattle.std.proofs.Common.{◌≡◌, ◌≤◌, ℕ, Result, Ok, Err, IfErr, subst, sym}
use Rattle.std.specs.Result.{IsErrAnd}
use Rattle.scenario.specs.CommandFaults.{CountsFromOne, IsOutside, NamesLine}
use Rattle.scenario.specs.declared.commands.CommandsFault.{CommandsFault}
use Rattle.scenario.specs.declared.commands.CommandsFault.TheVariants.{BadLine, Refused, Device, NoMemory}

-- What a fault of a file of commands names: no line, or one that is counted from 1.

outside_counts : (fault : CommandsFault) → IsOutside fault → CountsFromOne fault
outside_counts (BadLine number) outside = absurd outside
outside_counts (Refused number why) outside = absurd outside
outside_counts Device outside = tt
outside_counts NoMemory outside = tt

pub counts-outside : {T : Type 0} (r : Result T CommandsFault) → IsErrAnd r IsOutside → IfErr r CountsFromOne
counts-outside (Ok done) outside = tt
counts-outside (Err fault) outside = outside_counts fault outside

named_counts : (line : ℕ) (fault : CommandsFault) → 1 ≤ line → NamesLine line fault → CountsFromOne fault
named_counts line (BadLine number) counted names = subst (λ n. 1 ≤ n) (sym names) counted
named_counts line (Refused number why) counted names = (subst (λ n. 1 ≤ n) (sym names.0) counted, names.1)
named_counts line Device counted names = tt
named_counts line NoMemory counted names = tt

pub counts-named : {T : Type 0} (r : Result T CommandsFault) (line : ℕ) (fault : CommandsFault) → IsErrAnd r (λ told. told ≡ fault) → 1 ≤ line → NamesLine line fault → IfErr r CountsFromOne
counts-named (Ok done) line fault same counted names = tt
counts-named (Err told) line fault same counted names = subst CountsFromOne (sym same) (named_counts line fault counted names)
