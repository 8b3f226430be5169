use Rattle.std.proofs.Common.{◌≡◌, ◌+◌, ◌≤◌, length}
use Rattle.script_files.specs.Lines.{unended}
use Rattle.script_files.proofs.lines.line_end.Given as goal

abbrev pub invariant-loop-rest : goal.invariant-loop-rest
invariant-loop-rest l =
    (l.count + length (unended l.rest) ≡ length (unended l.fn.text))
    × (l.count + length l.rest ≤ length l.fn.text)

abbrev pub decreases-loop-rest : goal.decreases-loop-rest
decreases-loop-rest l = length l.rest
