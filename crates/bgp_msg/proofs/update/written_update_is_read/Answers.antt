use Rattle.bgp_msg.proofs.Updates.{written_says, no_attributes}
use Rattle.bgp_msg.proofs.update.written_update_is_read.Goals as goal

pub returns-clause-withdrawal : goal.returns-clause-withdrawal
returns-clause-withdrawal c kind = no_attributes kind

pub returns-clause-says : goal.returns-clause-says
returns-clause-says c kind withdrawn announced attributes can =
    written_says kind withdrawn announced attributes can.withdrawn_are can.announced_are can.fits can.faultless can.complete
