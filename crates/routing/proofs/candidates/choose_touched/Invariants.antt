use Rattle.std.proofs.Common.{◌≡◌}
use Rattle.decision.specs.BookContents.{offer_at}
use Rattle.local_exceptions.specs.ExceptionSets.{behind}
use Rattle.origin_valid.specs.Stretches.{changed_prefixes}
use Rattle.rib_in.specs.LatestRoutes.{HasRoute}
use Rattle.routing.specs.MarksIn.{AreMarkedIn}
use Rattle.routing.specs.Offers.{IsSound}
use Rattle.routing.specs.Sent.{linked}
use Rattle.routing.specs.Tables.{payloads_under, tables}
use Rattle.routing.proofs.TouchedStretches.{Touches}
use Rattle.routing.proofs.candidates.choose_touched.Given as goal

abbrev pub invariant-loop-stretch : goal.invariant-loop-stretch
invariant-loop-stretch g l =
    Touches (tables l.fn.conf (payloads_under l.fn.conf l.fn.payloads) (linked l.fn.links.entries l.fn.routing.sent) l.fn.routing.adj_in) (HasRoute l.fn.routing.adj_in) (changed_prefixes (behind l.fn.conf.exceptions l.fn.change)) l.yielded l.stretch-iterator (offer_at l.fn.routing.book) (offer_at l.routing.book) l.fn.routing.chosen l.routing.chosen
    × (l.routing.adj_in ≡ l.fn.routing.adj_in)
    × IsSound l.fn.conf (offer_at l.routing.book)
    × AreMarkedIn l.fn.conf l.fn.links.entries l.routing
    × (l.routing.sent ≡ l.fn.routing.sent)
