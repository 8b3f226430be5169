use Rattle.rtr_session.proofs.SessionLaws.{octets_are_dropped}
use Rattle.rtr_session.proofs.laws.octets_are_dropped.Goals as goal

pub returns : goal.returns
returns c = octets_are_dropped
