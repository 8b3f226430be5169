use Rattle.bgp_msg.proofs.PrefixLists.{wire_form-read}
use Rattle.bgp_msg.proofs.update.written_prefixes_are_read.Goals as goal

pub returns : goal.returns
returns c prefixes small = wire_form-read prefixes small
