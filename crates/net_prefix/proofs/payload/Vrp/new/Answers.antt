use Rattle.std.proofs.Common.{rules}
use Rattle.net_prefix.proofs.payload.Vrp.new.Goals as goal

pub returns-then-max_len-prefix : goal.returns-then-max_len-prefix
returns-then-max_len-prefix c = search rules
