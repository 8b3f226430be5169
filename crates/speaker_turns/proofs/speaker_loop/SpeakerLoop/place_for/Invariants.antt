use Rattle.std.proofs.Common.{◌≡◌, ◌<◌, ℕ, length}
use Rattle.speaker_turns.specs.Turns.{AwaitsAt}
use Rattle.speaker_turns.proofs.speaker_loop.SpeakerLoop.place_for.Given as goal

abbrev pub invariant-loop-place : goal.invariant-loop-place
invariant-loop-place g l =
    ((key : ℕ) → key < l.place → AwaitsAt l.fn.self.speaker l.fn.self.places l.fn.address key → ⊥) × (l.place-end ≡ length l.fn.self.places)
