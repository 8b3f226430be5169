use Rattle.std.proofs.Common.{◌≡◌, length}
use Rattle.bgp_msg.specs.MessageSpelling.{are_prefixes_in}
use Rattle.bgp_msg.proofs.update.are_prefixes.Given as goal

-- the rest is as good as all
abbrev pub invariant-loop-rest : goal.invariant-loop-rest
invariant-loop-rest l = are_prefixes_in l.rest ≡ are_prefixes_in l.fn.octets

abbrev pub decreases-loop-rest : goal.decreases-loop-rest
decreases-loop-rest l = length l.rest
