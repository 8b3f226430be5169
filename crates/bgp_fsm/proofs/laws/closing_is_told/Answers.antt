use Rattle.bgp_fsm.proofs.TableLaws.{closing_is_told}
use Rattle.bgp_fsm.proofs.laws.closing_is_told.Goals as goal

pub returns-clause-told : goal.returns-clause-told
returns-clause-told c = closing_is_told
