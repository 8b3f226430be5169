use Rattle.std.proofs.Common.{◌≡◌, None, Some}
use Rattle.routing.specs.Linked.{Linked}
use Rattle.routing.specs.Packing.{IsDue, IsFrom, most_named}
use Rattle.routing.specs.RoutesState.{export_of}
use Rattle.routing.specs.Tables.{link_at}
use Rattle.routes.proofs.Naming.{Names}
use Rattle.routes.proofs.routes.Routes.name_withdrawals.Given as goal

abbrev pub invariant-loop-next : goal.invariant-loop-next
invariant-loop-next g l =
    (m : Linked) → link_at l.fn.self.links l.fn.slot ≡ Some m
    → Names (IsFrom l.fn.least (IsDue (export_of l.fn.self l.fn.slot) None m)) most_named l.fn.least l.named.items l.room l.next

abbrev pub decreases-loop-next : goal.decreases-loop-next
decreases-loop-next g l = l.room
