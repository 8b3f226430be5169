use Rattle.std.proofs.Common.{◌≡◌, ◌≤◌, ◌<◌, Some}
use Rattle.bgp_fsm.specs.declared.state.State.TheVariants.{Established}
use Rattle.net_prefix.specs.declared.prefix.Prefix.{Prefix}
use Rattle.routing.specs.Linked.{Linked}
use Rattle.routing.specs.Packing.{IsDue}
use Rattle.routing.specs.Places.{rank_of}
use Rattle.routing.specs.RoutesState.{export_of}
use Rattle.routing.specs.Tables.{link_at}
use Rattle.routing.proofs.Places.{left_above}
use Rattle.routes.proofs.routes.Routes.alike_after.Given as goal

-- nothing that is due stands between the prefix that the walk began at and the one that it has come to
abbrev pub invariant-loop-prefix : goal.invariant-loop-prefix
invariant-loop-prefix g l =
    (rank_of l.fn.after ≤ rank_of l.last)
    × ((m : Linked) → link_at l.fn.self.links l.fn.slot ≡ Some m → m.peer.session.state ≡ Established
    → (q : Prefix) → IsDue (export_of l.fn.self l.fn.slot) (Some l.fn.octets.items) m q → rank_of l.fn.after < rank_of q → rank_of l.last < rank_of q)

abbrev pub decreases-loop-prefix : goal.decreases-loop-prefix
decreases-loop-prefix g l = left_above (Some l.last)
