use Rattle.std.proofs.Common.{rules, ◌≡◌, Some, None, subst}
use Rattle.bgp_msg.specs.MessageStream.{meaning}
use Rattle.bgp_peer.specs.Slot.{Slot}
use Rattle.bgp_peer.proofs.Receiving.{agrees-push, hears-push}
use Rattle.bgp_peer.proofs.Rests.{in_order-push}
use Rattle.bgp_peer.proofs.peer.Peer.push.Goals as goal

pub invariant_of-self : goal.invariant_of-self
invariant_of-self g c = rw (c.append.ensures, ← c.as_slice.ensures.value) (in_order-push _ _ _ _ _ _ c.wanted-count.ensures.count (rw c.as_slice.ensures.value c.self.invariant))

pub returns-clause-count : goal.returns-clause-count
returns-clause-count g c = search rules

pub returns-clause-exact : goal.returns-clause-exact
returns-clause-exact g c = search rules

pub returns-clause-agrees : goal.returns-clause-agrees
returns-clause-agrees g c = λ h a connected none.
    rw (returns-clause-exact g c)
    ((agrees-push h _ _ _ (returns-clause-count g c) a connected).0 (subst (λ (s : Slot). meaning s.rest ≡ None) (returns-clause-exact g c) none))

pub returns-clause-hears : goal.returns-clause-hears
returns-clause-hears g c = λ h item a connected some.
    rw (returns-clause-exact g c)
    (hears-push _ _ item connected ((agrees-push h _ _ _ (returns-clause-count g c) a connected).1 item (subst (λ (s : Slot). meaning s.rest ≡ Some item) (returns-clause-exact g c) some)))
