use Rattle.bgp_msg.proofs.Spellings.{spelled, spelling_is_message}
use Rattle.bgp_msg.proofs.stream.one_spelling.Goals as goal

pub returns-clause-spelled : goal.returns-clause-spelled
returns-clause-spelled c octets body kind small h = spelled octets kind body small h

pub returns-clause-read : goal.returns-clause-read
returns-clause-read c body kind may fits = spelling_is_message kind body may fits
