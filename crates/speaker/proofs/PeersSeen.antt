use Rattle.std.proofs.Common.{◌≡◌, List, Option, Some, None, refl, sym, ap, ◌∙◌}
use Rattle.std.specs.Option.{option_map}
use Rattle.bgp_fsm.specs.declared.session.Session.{Session}
use Rattle.bgp_peer.specs.Slot.{Slot}
use Rattle.net_prefix.specs.declared.prefix.Prefix.{Prefix}
use Rattle.rib_out.specs.Held.{HeldRoute, octets_of}
use Rattle.routing.specs.Linked.{Linked}
use Rattle.speaker.specs.Shown.{held_by}

-- Slots, seen by their peers or by what these hold.

abbrev pub peer_in_link : Linked → Slot
peer_in_link l = l.peer

abbrev pub table_in_link : Linked → List (Prefix × HeldRoute)
table_in_link l = l.adj_out

session_again : (o : Option Linked) → option_map (λ (p : Slot). p.session) (option_map peer_in_link o) ≡ option_map (λ (l : Linked). l.peer.session) o
session_again None = refl
session_again (Some l) = refl

-- the session of a slot's peer is that of the slot
pub session_seen : (found : Option Slot) (o : Option Linked) → found ≡ option_map peer_in_link o → option_map (λ (p : Slot). p.session) found ≡ option_map (λ (l : Linked). l.peer.session) o
session_seen found o is = ap (option_map (λ (p : Slot). p.session)) is ∙ session_again o

-- a peer that is seen is that of a slot
pub link_seen : (peer : Slot) (o : Option Linked) → Some peer ≡ option_map peer_in_link o → (l : Linked) × (o ≡ Some l) × (l.peer ≡ peer)
link_seen peer None is = absurd (cc)
link_seen peer (Some l) is = (l, refl, cc)

pub peer_same : (peer : Slot) (o : Option Linked) (l : Linked) → Some peer ≡ option_map peer_in_link o → o ≡ Some l → peer ≡ l.peer
peer_same peer o l is there = let both : Some peer ≡ Some l.peer = is ∙ ap (option_map peer_in_link) there in cc

pub unseen : {X : Type 0} (f : Linked → X) (o : Option Linked) → None ≡ option_map f o → o ≡ None
unseen f None is = refl
unseen f (Some l) is = absurd (cc)

-- what a slot's peer is seen to hold
pub held_seen : (table : List (Prefix × HeldRoute)) (o : Option Linked) → Some table ≡ option_map table_in_link o → octets_of table ≡ held_by o
held_seen table None is = absurd (cc)
held_seen table (Some l) is = let same : table ≡ l.adj_out = cc in ap octets_of same
