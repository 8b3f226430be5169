use Rattle.std.proofs.Common.{◌≡◌, length}
use Rattle.script_files.specs.Comparison.{line_among, line_in}
use Rattle.script_files.specs.Lines.{lines_of}
use Rattle.script_files.proofs.comparing.line_of.Given as goal

abbrev pub invariant-loop-line : goal.invariant-loop-line
invariant-loop-line l = line_among l.left (lines_of l.rest) ≡ line_in l.fn.number l.fn.text

abbrev pub decreases-loop-line : goal.decreases-loop-line
decreases-loop-line l = length l.rest
