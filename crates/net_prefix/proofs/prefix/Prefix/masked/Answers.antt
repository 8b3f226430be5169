use Rattle.std.proofs.Common.{rules}
use Rattle.net_prefix.proofs.prefix.Prefix.masked.Goals as goal

pub returns : goal.returns
returns c = search rules
