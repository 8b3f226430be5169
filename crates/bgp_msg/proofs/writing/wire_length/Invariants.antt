use Rattle.std.proofs.Common.{◌≡◌, length, take}
use Rattle.bgp_msg.specs.MessageSpelling.{wire_form}
use Rattle.bgp_msg.proofs.writing.wire_length.Given as goal

abbrev pub invariant-loop-prefix : goal.invariant-loop-prefix
invariant-loop-prefix l = l.total ≡ length (wire_form (take l.prefix-index l.prefixes))
