use Rattle.std.proofs.Common.{◌≡◌, length}
use Rattle.vrp_json.specs.ListFormats.{format_of}
use Rattle.vrp_json.proofs.format.format_of.Given as goal

abbrev pub invariant-loop-rest : goal.invariant-loop-rest
invariant-loop-rest l = format_of l.rest ≡ format_of l.fn.octets

abbrev pub decreases-loop-rest : goal.decreases-loop-rest
decreases-loop-rest l = length l.rest
