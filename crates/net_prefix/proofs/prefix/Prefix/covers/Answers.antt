use Rattle.std.proofs.Common.{rules}
use Rattle.net_prefix.proofs.prefix.Prefix.covers.Goals as goal

pub returns-else-self-other : goal.returns-else-self-other
returns-else-self-other c = search rules
