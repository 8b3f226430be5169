use Rattle.std.proofs.Common.{◌≡◌, ◌≤◌, None}
use Rattle.bgp_msg.specs.MessageSpelling.{front_prefixes}
use Rattle.decision.specs.BookContents.{offer_at}
use Rattle.rib_in.specs.LatestRoutes.{route_at}
use Rattle.routing.proofs.Counting.{CountsNamed, only_in}
use Rattle.routing.proofs.RouteChanges.{Sets}
use Rattle.routing.specs.MarksIn.{AreMarkedIn}
use Rattle.routing.proofs.updates.withdraw_each.Given as goal

abbrev pub invariant-loop-prefix : goal.invariant-loop-prefix
invariant-loop-prefix g l =
    Sets l.slot (only_in l.fn.announced.octets.now) (front_prefixes l.fn.prefixes.octets.now).0 l.yielded (front_prefixes l.prefix-iterator.octets.now).0 (λ p. None) (route_at l.initial.routing.adj_in) (route_at l.routing.adj_in)
    × Sets l.slot (only_in l.fn.announced.octets.now) (front_prefixes l.fn.prefixes.octets.now).0 l.yielded (front_prefixes l.prefix-iterator.octets.now).0 (λ p. None) (offer_at l.initial.routing.book) (offer_at l.routing.book)
    × AreMarkedIn l.fn.conf l.fn.links.entries l.routing
    × CountsNamed (only_in l.fn.announced.octets.now) l.yielded l.initial.routing.chosen l.routing.chosen
    × (l.initial.routing.chosen ≤ l.routing.chosen)
    × (l.routing.sent ≡ l.initial.routing.sent)
