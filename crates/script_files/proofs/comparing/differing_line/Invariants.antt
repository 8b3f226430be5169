use Rattle.std.proofs.Common.{◌≡◌, ◌+◌, ◌≤◌, length}
use Rattle.script_files.specs.Comparison.{difference_of, difference_from}
use Rattle.script_files.proofs.comparing.differing_line.Given as goal

-- the difference is that of what is left, and no more lines have gone than octets
abbrev pub invariant-loop-answered : goal.invariant-loop-answered
invariant-loop-answered l =
    (difference_from l.line l.answered l.wanted ≡ difference_of l.fn.found l.fn.told)
    × (l.line + length l.answered ≤ length l.fn.found + 1)

abbrev pub decreases-loop-answered : goal.decreases-loop-answered
decreases-loop-answered l = length l.answered
