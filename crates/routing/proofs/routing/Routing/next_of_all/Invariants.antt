use Rattle.std.proofs.Common.{◌≡◌, Some}
use Rattle.routing.specs.MarksIn.{mark_in}
use Rattle.routing.proofs.MarkedNexts.{NoneUpTo}
use Rattle.routing.proofs.Places.{left_above}
use Rattle.routing.proofs.routing.Routing.next_of_all.Given as goal

abbrev pub invariant-loop-prefix : goal.invariant-loop-prefix
invariant-loop-prefix g l = NoneUpTo (λ q. (mark_in l.fn.conf l.fn.links.entries l.fn.self l.fn.slot q).owed ≡ Some l.fn.wanted) l.fn.after l.last

abbrev pub decreases-loop-prefix : goal.decreases-loop-prefix
decreases-loop-prefix g l = left_above l.last
