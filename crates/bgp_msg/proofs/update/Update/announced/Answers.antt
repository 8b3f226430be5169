use Rattle.std.proofs.Common.{rules}
use Rattle.bgp_msg.proofs.update.Update.announced.Goals as goal

pub returns : goal.returns
returns g c = search rules
