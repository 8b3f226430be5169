use Rattle.runs.proofs.OtherSessions.{starves_once}
use Rattle.speaker.proofs.laws.each_slot_starves_once.Goals as goal

pub returns : goal.returns
returns c = starves_once
