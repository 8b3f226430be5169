use Rattle.rtr_codec.proofs.Streams.{fault-then}
use Rattle.rtr_codec.proofs.stream.fault_ends_the_stream.Goals as goal

pub returns : goal.returns
returns c place octets more fault found = fault-then place octets more fault found
