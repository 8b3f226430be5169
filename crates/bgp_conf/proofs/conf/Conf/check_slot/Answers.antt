use Rattle.std.proofs.Common.{rules}
use Rattle.bgp_conf.proofs.conf.Conf.check_slot.Goals as goal

pub returns : goal.returns
returns g c = search rules
