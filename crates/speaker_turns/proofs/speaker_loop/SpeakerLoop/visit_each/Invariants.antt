use Rattle.std.proofs.Common.{◌≡◌, ◌<◌, ◌≤◌, IfSome, length}
use Rattle.wires.specs.TurnOctets.{outgoing_octets}
use Rattle.speaker_turns.specs.Turns.{AtPlaces, VisitsBut}
use Rattle.speaker_turns.proofs.speaker_loop.SpeakerLoop.visit_each.Given as goal

-- the places below were visited, but those put off; the one that ends is one of them
abbrev pub invariant-loop-place : goal.invariant-loop-place
invariant-loop-place g l =
    AtPlaces (VisitsBut l.fn.self.next l.one l.fn.now) l.place l.fn.self l.self × (l.self.next ≡ l.fn.self.next) × IfSome l.one (λ one. (l.fn.self.next ≤ one) × (one < l.place)) × (length l.self.places ≡ length l.fn.self.places) × (l.place-end ≡ length l.fn.self.places) × (length l.buf ≡ outgoing_octets)
