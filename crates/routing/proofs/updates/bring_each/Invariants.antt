use Rattle.std.proofs.Common.{◌≡◌, ◌++◌}
use Rattle.bgp_msg.specs.MessageSpelling.{front_prefixes}
use Rattle.routing.specs.Brought.{IsBrought}
use Rattle.routing.specs.MarksIn.{AreMarkedIn}
use Rattle.routing.proofs.updates.bring_each.Given as goal

abbrev pub invariant-loop-prefix : goal.invariant-loop-prefix
invariant-loop-prefix g l =
    (l.yielded ++ (front_prefixes l.prefix-iterator.octets.now).0 ≡ (front_prefixes l.fn.prefixes.octets.now).0)
    × IsBrought l.slot l.attrs.value l.yielded l.named.items l.initial.routing l.routing
    × AreMarkedIn l.fn.conf l.fn.links.entries l.routing
    × (l.routing.sent ≡ l.initial.routing.sent)
