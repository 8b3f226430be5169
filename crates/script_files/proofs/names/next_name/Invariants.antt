use Rattle.std.proofs.Common.{◌≡◌, ◌≤◌, length}
use Rattle.script_files.specs.Names.{names_in}
use Rattle.script_files.proofs.names.next_name.Given as goal

abbrev pub invariant-loop-line : goal.invariant-loop-line
invariant-loop-line l = (names_in l.rest ≡ names_in l.fn.list) × (length l.rest ≤ length l.fn.list)

abbrev pub decreases-loop-line : goal.decreases-loop-line
decreases-loop-line l = length l.rest
