use Rattle.rtr_codec.proofs.Streams.{wants_none, wants-then}
use Rattle.rtr_codec.proofs.stream.wanted_is_unread.Goals as goal

pub returns : goal.returns
returns c place octets h = (wants_none place octets h, (wants-then place octets h).0, (wants-then place octets h).1)
