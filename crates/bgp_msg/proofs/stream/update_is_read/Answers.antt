use Rattle.bgp_msg.proofs.WrittenMessages.{update_first, update_has_parts}
use Rattle.bgp_msg.proofs.stream.update_is_read.Goals as goal

pub returns-clause-message : goal.returns-clause-message
returns-clause-message c withdrawn attributes announced fits = update_first withdrawn attributes announced fits

pub returns-clause-parts : goal.returns-clause-parts
returns-clause-parts c withdrawn attributes announced fits = update_has_parts withdrawn attributes announced fits
