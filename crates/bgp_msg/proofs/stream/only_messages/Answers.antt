use Rattle.bgp_msg.proofs.Streams.{split, splits}
use Rattle.bgp_msg.proofs.stream.only_messages.Goals as goal

pub returns-clause-some : goal.returns-clause-some
returns-clause-some c stream = splits stream

pub returns-clause-one : goal.returns-clause-one
returns-clause-one c stream rest items h = split stream items rest h
