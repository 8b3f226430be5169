use Rattle.std.proofs.Common.{◌≡◌, ℕ, ◌<◌}
use Rattle.speaker_program.specs.Slots.{is_configured}
use Rattle.speaker_settings.specs.PeerSlots.{has_slot}
use Rattle.speaker_program.proofs.commanded_speaker.other_slot.Given as goal

abbrev pub invariant-loop-slot : goal.invariant-loop-slot
invariant-loop-slot g l = (k : ℕ) → k < l.slot → is_configured l.speaker k ≡ has_slot l.peers k
