use Rattle.rtr_session.proofs.SessionLaws.{reports_find_room}
use Rattle.rtr_session.proofs.laws.reports_find_room.Goals as goal

pub returns : goal.returns
returns c = reports_find_room
