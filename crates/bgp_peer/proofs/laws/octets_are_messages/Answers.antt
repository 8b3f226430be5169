use Rattle.bgp_peer.proofs.Sending.{octets_are_messages}
use Rattle.bgp_peer.proofs.laws.octets_are_messages.Goals as goal

pub returns : goal.returns
returns c = octets_are_messages
