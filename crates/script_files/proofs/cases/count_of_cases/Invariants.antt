use Rattle.std.proofs.Common.{◌≡◌, ◌+◌, ◌≤◌, length}
use Rattle.std.specs.Prelude.{count_by}
use Rattle.script_files.specs.Cases.{is_head}
use Rattle.script_files.specs.Lines.{lines_of}
use Rattle.script_files.proofs.cases.count_of_cases.Given as goal

abbrev pub invariant-loop-line : goal.invariant-loop-line
invariant-loop-line l =
    (l.heads + count_by is_head (lines_of l.rest) ≡ count_by is_head (lines_of l.fn.text))
    × (l.heads + length l.rest ≤ length l.fn.text)

abbrev pub decreases-loop-line : goal.decreases-loop-line
decreases-loop-line l = length l.rest
