use Rattle.bgp_msg.proofs.Streams.{only_whole}
use Rattle.bgp_msg.proofs.stream.no_message_begins_another.Goals as goal

pub returns : goal.returns
returns c octets more body other kind kind_of_other h k = only_whole octets more body other kind kind_of_other h k
