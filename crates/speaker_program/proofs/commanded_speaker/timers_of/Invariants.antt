use Rattle.std.proofs.Common.{◌≡◌, drop}
use Rattle.runs.specs.SlotTimes.{usual_timers}
use Rattle.speaker_program.specs.ToldConfig.{with_all_times}
use Rattle.speaker_program.proofs.commanded_speaker.timers_of.Given as goal

-- those that are left make of the timers what all make of the usual ones
abbrev pub invariant-loop-slot : goal.invariant-loop-slot
invariant-loop-slot l = with_all_times (drop l.slot-index l.told) l.timers ≡ with_all_times l.told usual_timers
