use Rattle.std.proofs.Common.{refl}
use Rattle.speaker_turns.proofs.speaker_loop.SpeakerLoop.obey.Goals as goal

pub returns-in-Err : goal.returns-in-Err
returns-in-Err g c = rw (← c.self.view_is) (record { refuses = c.in-Err.ensures; same = refl })
