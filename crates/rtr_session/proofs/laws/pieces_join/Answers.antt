use Rattle.rtr_session.proofs.SessionLaws.{pieces_join}
use Rattle.rtr_session.proofs.laws.pieces_join.Goals as goal

pub returns : goal.returns
returns c = pieces_join
