use Rattle.std.proofs.Common.{rules}
use Rattle.bgp_msg.proofs.fault.HeaderFault.data.Goals as goal

pub returns-in-BadMessageLength : goal.returns-in-BadMessageLength
returns-in-BadMessageLength c = search rules
