use Rattle.octet_streams.proofs.Streams.{only_whole}
use Rattle.octet_streams.proofs.no_item_begins_another.Goals as goal

pub returns : goal.returns
returns g c grammar place octets more item other ok h k = only_whole grammar ok place octets more item other h k
