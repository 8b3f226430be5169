use Rattle.std.proofs.Common.{◌≡◌, replicate}
use Rattle.speaker_turns.specs.Turns.{vacant}
use Rattle.speaker_turns.proofs.speaker_loop.make_places.Given as goal

abbrev pub invariant-loop-count : goal.invariant-loop-count
invariant-loop-count g l = l.made.items ≡ replicate l.count vacant
