use Rattle.rtr_session.proofs.SessionLaws.{octets_are_pdus}
use Rattle.rtr_session.proofs.laws.octets_are_pdus.Goals as goal

pub returns : goal.returns
returns c = octets_are_pdus
