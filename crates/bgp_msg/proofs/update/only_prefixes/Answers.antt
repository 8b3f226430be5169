use Rattle.bgp_msg.proofs.PrefixLists.{prefixes-are, prefixes_in-are}
use Rattle.bgp_msg.proofs.update.only_prefixes.Goals as goal

pub returns : goal.returns
returns c octets prefixes = (prefixes-are octets prefixes, prefixes_in-are octets prefixes)
