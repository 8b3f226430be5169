use Rattle.bgp_peer.proofs.Sending.{sent_are_messages}
use Rattle.bgp_peer.proofs.laws.sent_are_messages.Goals as goal

pub returns : goal.returns
returns c = sent_are_messages
