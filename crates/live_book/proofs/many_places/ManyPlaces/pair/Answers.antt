use Rattle.std.proofs.Common.{sym, subst}
use Rattle.live_book.specs.NeighborBests.{AreBests}
use Rattle.live_book.proofs.Alone.{pair_bests}
use Rattle.live_book.proofs.many_places.ManyPlaces.pair.Goals as goal

pub invariant_of-result : goal.invariant_of-result
invariant_of-result g c = subst AreBests (sym c.in_ok-two_places.ensures.places) (pair_bests c.args.first c.args.second c.args.candidate)
