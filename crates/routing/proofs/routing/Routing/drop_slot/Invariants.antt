use Rattle.std.proofs.Common.{◌≡◌}
use Rattle.loc_rib.proofs.EndedSlots.{KeepsOthers}
use Rattle.rib_in.proofs.SlotWalks.{Drops, left_above}
use Rattle.std.specs.Option.{IsSome}
use Rattle.rib_in.specs.LatestRoutes.{route_at}
use Rattle.routing.specs.MarksIn.{AreMarkedIn}
use Rattle.routing.proofs.Counting.{Counts, WereThere}
use Rattle.routing.proofs.routing.Routing.drop_slot.Given as goal

abbrev pub invariant-loop-prefix : goal.invariant-loop-prefix
invariant-loop-prefix g l =
    Drops l.fn.slot l.after l.fn.self.adj_in l.self.adj_in
    × KeepsOthers l.fn.slot l.fn.self.book l.self.book
    × AreMarkedIn l.fn.conf l.fn.links.entries l.self
    × WereThere l.fn.slot l.fn.self.adj_in l.self.adj_in
    × Counts (λ p. IsSome (route_at l.fn.self.adj_in l.fn.slot p)) l.after l.fn.self.chosen l.self.chosen
    × (l.self.sent ≡ l.fn.self.sent)

abbrev pub decreases-loop-prefix : goal.decreases-loop-prefix
decreases-loop-prefix g l = left_above l.after
