use Rattle.std.proofs.Common.{rules}
use Rattle.refusing.proofs.counted.Goals as goal

pub returns-clause-left : goal.returns-clause-left
returns-clause-left c = search rules

pub returns-clause-refused : goal.returns-clause-refused
returns-clause-refused c = search rules
