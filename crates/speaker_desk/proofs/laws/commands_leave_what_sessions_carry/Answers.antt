use Rattle.speaker_desk.proofs.Moving.{moves_carry_own}
use Rattle.speaker_desk.proofs.laws.commands_leave_what_sessions_carry.Goals as goal

pub returns : goal.returns
returns c = moves_carry_own
