use Rattle.speaker_desk.proofs.Rounds.{becomes_of}
use Rattle.speaker_desk.proofs.laws.waiting_peers_go_when_they_may.Goals as goal

pub returns : goal.returns
returns g c = becomes_of _ _ _ _
