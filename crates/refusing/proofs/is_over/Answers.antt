use Rattle.std.proofs.Common.{rules}
use Rattle.refusing.proofs.is_over.Goals as goal

pub returns : goal.returns
returns c = search rules
