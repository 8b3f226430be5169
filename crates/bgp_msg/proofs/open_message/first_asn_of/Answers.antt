use Rattle.std.proofs.Common.{rules}
use Rattle.bgp_msg.proofs.open_message.first_asn_of.Goals as goal

pub returns : goal.returns
returns c = search rules
