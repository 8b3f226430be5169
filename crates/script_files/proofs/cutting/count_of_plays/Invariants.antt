use Rattle.std.proofs.Common.{◌≡◌, length}
use Rattle.script_files.specs.Cuts.{plays_of}
use Rattle.script_files.proofs.cutting.count_of_plays.Given as goal

abbrev pub invariant-loop-line : goal.invariant-loop-line
invariant-loop-line l = plays_of l.rest ≡ plays_of l.fn.script

abbrev pub decreases-loop-line : goal.decreases-loop-line
decreases-loop-line l = length l.rest
