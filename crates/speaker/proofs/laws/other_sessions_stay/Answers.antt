use Rattle.runs.proofs.OtherSessions.{other_stays}
use Rattle.speaker.proofs.laws.other_sessions_stay.Goals as goal

pub returns : goal.returns
returns c = other_stays
