use Rattle.std.proofs.Common.{◌≡◌, ◌++◌, length}
use Rattle.script_files.specs.Cuts.{cut_lines, script_cut}
use Rattle.script_files.specs.Lines.{lines_of}
use Rattle.script_files.proofs.cutting.cut_at.Given as goal

abbrev pub invariant-loop-line : goal.invariant-loop-line
invariant-loop-line l =
    l.played.items ++ cut_lines l.fn.place l.cuts l.held.0.now l.held.1.now (lines_of l.rest) ≡ script_cut l.fn.place l.fn.script

abbrev pub decreases-loop-line : goal.decreases-loop-line
decreases-loop-line l = length l.rest
