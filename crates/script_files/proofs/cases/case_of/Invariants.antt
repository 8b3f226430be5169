use Rattle.std.proofs.Common.{◌≡◌, ◌++◌, ◌+◌, ◌≤◌, length}
use Rattle.script_files.specs.Cases.{case_in, lines_for}
use Rattle.script_files.specs.Lines.{lines_of}
use Rattle.script_files.proofs.cases.case_of.Given as goal

abbrev pub invariant-loop-line : goal.invariant-loop-line
invariant-loop-line l =
    (l.chosen.items ++ lines_for l.fn.number l.at (lines_of l.rest) ≡ case_in l.fn.number l.fn.text)
    × (l.at + length l.rest ≤ length l.fn.text)

abbrev pub decreases-loop-line : goal.decreases-loop-line
decreases-loop-line l = length l.rest
