use Rattle.std.proofs.Common.{◌≡◌, ◌≤◌, length, Some, true}
use Rattle.std.specs.Vec.Iter.{into_iter_items, into_iter_len}
use Rattle.decision.specs.BookContents.{offer_at}
use Rattle.rib_in.specs.LatestRoutes.{route_at}
use Rattle.routing.specs.Tables.{payloads_under}
use Rattle.routing.proofs.Counting.{CountsNamed}
use Rattle.routing.proofs.RouteChanges.{Sets}
use Rattle.routing.specs.Brought.{AreReady, prefixes_of}
use Rattle.routing.specs.Candidates.{judged_at}
use Rattle.routing.specs.MarksIn.{AreMarkedIn}
use Rattle.routing.proofs.updates.announce_each.Given as goal

abbrev pub invariant-loop-announced : goal.invariant-loop-announced
invariant-loop-announced g l =
    Sets l.slot (λ p. true) (prefixes_of l.fn.named.items) (prefixes_of l.yielded) (prefixes_of (into_iter_items l.announced-iterator)) (λ p. Some l.attrs) (route_at l.initial.routing.adj_in) (route_at l.routing.adj_in)
    × Sets l.slot (λ p. true) (prefixes_of l.fn.named.items) (prefixes_of l.yielded) (prefixes_of (into_iter_items l.announced-iterator)) (judged_at l.conf (payloads_under l.conf l.payloads) l.attrs l.candidate) (offer_at l.initial.routing.book) (offer_at l.routing.book)
    × AreReady l.slot l.attrs l.initial.routing.adj_in (into_iter_items l.announced-iterator)
    × AreMarkedIn l.conf l.links.entries l.routing
    × CountsNamed (λ p. true) (prefixes_of l.yielded) l.initial.routing.chosen l.routing.chosen
    × (l.initial.routing.chosen ≤ l.routing.chosen)
    × (into_iter_len l.announced-iterator ≡ length (into_iter_items l.announced-iterator))
    × (l.routing.sent ≡ l.initial.routing.sent)
