use Rattle.std.proofs.Common.{◌≡◌, length}
use Rattle.speaker_turns.specs.Turns.{AtPlaces, GivesWay}
use Rattle.speaker_turns.proofs.speaker_loop.SpeakerLoop.give_way_all.Given as goal

abbrev pub invariant-loop-place : goal.invariant-loop-place
invariant-loop-place g l =
    AtPlaces (GivesWay l.fn.report) l.place l.fn.self l.self × (length l.self.places ≡ length l.fn.self.places) × (l.place-end ≡ length l.fn.self.places)
