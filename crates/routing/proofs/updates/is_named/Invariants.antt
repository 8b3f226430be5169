use Rattle.std.proofs.Common.{◌≡◌}
use Rattle.bgp_msg.specs.MessageSpelling.{front_prefixes}
use Rattle.routing.specs.Updates.{is_among}
use Rattle.routing.proofs.updates.is_named.Given as goal

-- it is one of all just where it is one of those still to come
abbrev pub invariant-loop-named : goal.invariant-loop-named
invariant-loop-named l = is_among l.fn.prefix (front_prefixes l.fn.prefixes.octets.now).0 ≡ is_among l.fn.prefix (front_prefixes l.named-iterator.octets.now).0
