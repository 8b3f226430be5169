use Rattle.std.proofs.Common.{rules, subst}
use Rattle.bgp_peer.specs.Slot.{Slot, IsInOrder}
use Rattle.bgp_peer.proofs.Receiving.{front-item, front-only}
use Rattle.bgp_peer.proofs.peer.Peer.front.Goals as goal

pub returns-clause-tells : goal.returns-clause-tells
returns-clause-tells g c = search rules

pub returns-clause-whole : goal.returns-clause-whole
returns-clause-whole g c = search rules

pub returns-clause-only : goal.returns-clause-only
returns-clause-only g c = front-only _ _ (returns-clause-tells g c) (returns-clause-whole g c)

pub returns-clause-item : goal.returns-clause-item
returns-clause-item g c =
    front-item _ _ _ _ _ (returns-clause-tells g c) (returns-clause-whole g c)
    (subst (λ (s : Slot). IsInOrder s.session s.rest c.self.inside.ring.items c.self.inside.ring.capacity) c.self.view_is c.self.invariant)
