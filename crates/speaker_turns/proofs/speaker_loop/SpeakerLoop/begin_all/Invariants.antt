use Rattle.std.proofs.Common.{◌≡◌, length}
use Rattle.speaker_turns.specs.Serving.{Begins}
use Rattle.speaker_turns.specs.Turns.{AtPlaces}
use Rattle.speaker_turns.proofs.speaker_loop.SpeakerLoop.begin_all.Given as goal

abbrev pub invariant-loop-place : goal.invariant-loop-place
invariant-loop-place g l =
    AtPlaces Begins l.place l.fn.self l.self × (length l.self.places ≡ length l.fn.self.places) × (l.place-end ≡ length l.fn.self.places)
