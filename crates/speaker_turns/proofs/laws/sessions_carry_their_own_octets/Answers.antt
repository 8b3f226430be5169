use Rattle.speaker_turns.proofs.Carrying.{carries_own}
use Rattle.speaker_turns.proofs.laws.sessions_carry_their_own_octets.Goals as goal

pub returns : goal.returns
returns c = carries_own
