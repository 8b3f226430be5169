use Rattle.std.proofs.Common.{◌≡◌, ◌++◌, take}
use Rattle.bgp_msg.specs.MessageSpelling.{wire_form}
use Rattle.bgp_msg.proofs.writing.append_prefixes.Given as goal

abbrev pub invariant-loop-prefix : goal.invariant-loop-prefix
invariant-loop-prefix l = l.out.items ≡ l.initial.out.items ++ wire_form (take l.prefix-index l.prefixes)
