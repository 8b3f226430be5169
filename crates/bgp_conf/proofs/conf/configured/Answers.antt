use Rattle.std.proofs.Common.{rules}
use Rattle.bgp_conf.proofs.conf.configured.Goals as goal

pub returns : goal.returns
returns c = search rules
