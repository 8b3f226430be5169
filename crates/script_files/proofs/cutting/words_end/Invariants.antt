use Rattle.std.proofs.Common.{◌≡◌, ◌+◌, ◌≤◌, length, if◌then◌else◌}
use Rattle.script_files.specs.Cuts.{has_space, words_of}
use Rattle.script_files.proofs.cutting.words_end.Given as goal

abbrev pub invariant-loop-rest : goal.invariant-loop-rest
invariant-loop-rest l =
    (length (words_of l.fn.text) ≡ (if has_space l.rest then l.at + length (words_of l.rest) else l.end))
    × (l.at + length l.rest ≤ length l.fn.text)

abbrev pub decreases-loop-rest : goal.decreases-loop-rest
decreases-loop-rest l = length l.rest
