use Rattle.std.proofs.Common.{◌≡◌, true}
use Rattle.std.specs.Option.{IfSome}
use Rattle.decision.specs.BookContents.{offer_at}
use Rattle.prefix_trie.specs.CoverWalks.{covers}
use Rattle.rib_in.specs.LatestRoutes.{HasRoute}
use Rattle.routing.specs.MarksIn.{AreMarkedIn}
use Rattle.routing.specs.Offers.{IsSound}
use Rattle.routing.specs.Sent.{linked}
use Rattle.routing.specs.Tables.{payloads_under, tables}
use Rattle.routing.proofs.Counting.{Counts}
use Rattle.routing.proofs.RemadeOffers.{RemadeUpTo}
use Rattle.routing.proofs.Places.{left_above}
use Rattle.routing.proofs.candidates.choose_within.Given as goal

abbrev pub invariant-loop-prefix : goal.invariant-loop-prefix
invariant-loop-prefix g l =
    RemadeUpTo (tables l.fn.conf (payloads_under l.fn.conf l.fn.payloads) (linked l.fn.links.entries l.fn.routing.sent) l.fn.routing.adj_in) (covers l.fn.stretch) (offer_at l.fn.routing.book) l.after (offer_at l.routing.book)
    × (l.routing.adj_in ≡ l.fn.routing.adj_in)
    × IsSound l.fn.conf (offer_at l.routing.book)
    × AreMarkedIn l.fn.conf l.fn.links.entries l.routing
    × Counts (λ p. (covers l.fn.stretch p ≡ true) × HasRoute l.fn.routing.adj_in p) l.after l.fn.routing.chosen l.routing.chosen
    × IfSome l.after (λ p. covers l.fn.stretch p ≡ true)
    × (l.routing.sent ≡ l.fn.routing.sent)

abbrev pub decreases-loop-prefix : goal.decreases-loop-prefix
decreases-loop-prefix g l = left_above l.after
