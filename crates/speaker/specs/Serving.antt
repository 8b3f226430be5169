-- What waits of each prefix for each peer: what it is owed, so that it holds its export (our own, for RFC 4271 section 9.2) and was
-- told what it asked for again (RFC 2918 section 4).
use Rattle.std.specs.Prelude.{◌≡◌, ◌≢◌, ◌<◌, ℕ, Bool, List, Option, Some, None, true, false, ◌≤◌, length}
use Rattle.bgp_conf.specs.Configuration.{peer_at}
use Rattle.bgp_conf.specs.declared.conf.ConfiguredPeer.{ConfiguredPeer}
use Rattle.bgp_fsm.specs.StateTests.{is_established}
use Rattle.bgp_fsm.specs.declared.state.State.TheVariants.{Established}
use Rattle.net_prefix.specs.declared.prefix.Prefix.{Prefix}
use Rattle.rib_out.specs.Held.{asked_at, held_at, is_among}
use Rattle.routing.specs.Linked.{Linked}
use Rattle.runs.specs.SpeakerState.{SpeakerState}
use Rattle.routing.specs.Tables.{link_at}
use Rattle.runs.specs.Agreement.{QueuesOn}
use Rattle.speaker.specs.Export.{export_to}
use Rattle.speaker.specs.Moves.{IsPut}
use Rattle.routing.specs.Told.{IsTold, HasRoom}
use Rattle.routing.specs.Packing.{IsDue, IsFrom, IsNewTo, IsPack, room_beside}
use Rattle.runs.specs.Queueing.{ComesFirst, IsServed}

-- the slot is that of an Established peer
pub record IsServedBy (s : SpeakerState) (slot : ℕ) (l : Linked) : Type 0 where
  pub peer : ConfiguredPeer
  pub configured : peer_at s.conf slot ≡ Some peer
  pub linked : link_at s.links slot ≡ Some l
  pub established : l.peer.session.state ≡ Established

-- where 8,192 octets are free, the peer of this slot holds its export and waits for nothing that it asked for again, if its session is
-- Established
abbrev pub IsServedAt : SpeakerState → ℕ → Type 0
IsServedAt s slot = (peer : ConfiguredPeer) (l : Linked) → peer_at s.conf slot ≡ Some peer → link_at s.links slot ≡ Some l → IsServed (export_to s slot) l

-- so it is of all lower slots
abbrev pub AreServedBelow : SpeakerState → ℕ → Type 0
AreServedBelow s slot = (t : ℕ) → t < slot → IsServedAt s t

-- a slot with an Established session
abbrev pub IsUpAt : SpeakerState → ℕ → Type 0
IsUpAt s slot = (l : Linked) × (link_at s.links slot ≡ Some l) × (l.peer.session.state ≡ Established)

-- so are they of this slot's ring
abbrev pub HasRoomAt : SpeakerState → ℕ → Type 0
HasRoomAt s slot = (l : Linked) → link_at s.links slot ≡ Some l → HasRoom l

-- the slot's session is Established, its ring has room, and of a prefix of the UPDATE that is to be queued its peer doesn't hold what
-- is exported to it; all lower slots are served
pub record IsShortAt (s : SpeakerState) (slot : ℕ) : Type 0 where
  pub peer : ConfiguredPeer
  pub linked : Linked
  pub octets : List ℕ
  pub named : List Prefix
  pub least : Prefix
  pub prefix : Prefix
  pub within : slot < 64
  pub configured : peer_at s.conf slot ≡ Some peer
  pub is : link_at s.links slot ≡ Some linked
  pub up : linked.peer.session.state ≡ Established
  pub room : HasRoom linked
  pub packed : IsPack (IsFrom least (IsDue (export_to s slot) (Some octets) linked)) (room_beside (Some octets)) named
  pub leads : is_among least named ≡ true
  pub first : (q : Prefix) → IsNewTo linked q (export_to s slot q) → ComesFirst least (Some octets) q (export_to s slot q)
  pub among : is_among prefix named ≡ true
  pub exported : export_to s slot prefix ≡ Some octets
  pub other : held_at linked.adj_out prefix ≢ Some octets
  pub below : AreServedBelow s slot

-- whether a slot is there with an Established session
abbrev pub is_standing : Option Linked → Bool
is_standing None = false
is_standing (Some l) = is_established l.peer.session.state

-- the sessions that were Established are, and no others
abbrev pub Stand : SpeakerState → SpeakerState → Type 0
Stand old new = (s : ℕ) → is_standing (link_at new.links s) ≡ is_standing (link_at old.links s)

-- only this slot differs
pub record IsOfSlot (slot : ℕ) (old new : SpeakerState) : Type 0 where
  pub rest : new ≡ record old { links = new.links }
  pub others : (s : ℕ) → s ≢ slot → link_at new.links s ≡ link_at old.links s

-- nothing differs
pub record IsStill (old new : SpeakerState) : Type 0 where
  pub rest : new ≡ record old { links = new.links }
  pub links : (s : ℕ) → link_at new.links s ≡ link_at old.links s

-- the slot's peer is told this of these prefixes, and nothing else of the speaker changes
pub record IsToldAt (slot : ℕ) (named : List Prefix) (export : Option (List ℕ)) (old new : SpeakerState) : Type 0 where
  pub before : Linked
  pub after : Linked
  pub was : link_at old.links slot ≡ Some before
  pub told : IsTold named export before after
  pub puts : IsPut slot after old new
  pub rest : new ≡ record old { links = new.links }

-- the slot's peer is told what it is owed: the ring grows, and what neither is exported nor was held isn't held
pub record Serves (slot : ℕ) (old new : SpeakerState) : Type 0 where
  pub before : Linked
  pub after : Linked
  pub was : link_at old.links slot ≡ Some before
  pub is : link_at new.links slot ≡ Some after
  pub stood : before.peer.session.state ≡ Established
  pub up : after.peer.session.state ≡ Established
  pub grows : length before.peer.ring ≤ length after.peer.ring
  pub gone : (q : Prefix) → export_to old slot q ≡ None → held_at before.adj_out q ≡ None → held_at after.adj_out q ≡ None
  pub only : IsOfSlot slot old new
  pub queues : QueuesOn old new

-- this holds of a prefix, of what the slot's peer holds of it, and of whether it has asked for it again
abbrev pub IsDoneOf : (Prefix → Option (List ℕ) → Bool → Type 0) → Linked → Prefix → Type 0
IsDoneOf done l q = done q (held_at l.adj_out q) (asked_at l.adj_out q)

-- where there is room left, it does of each prefix
abbrev pub IsDoneAt : (Prefix → Option (List ℕ) → Bool → Type 0) → SpeakerState → ℕ → Type 0
IsDoneAt done s slot = (l : Linked) → link_at s.links slot ≡ Some l → HasRoom l → (q : Prefix) → IsDoneOf done l q

-- what isn't exported isn't held
abbrev pub IsGone : (Prefix → Option (List ℕ)) → Prefix → Option (List ℕ) → Bool → Type 0
IsGone export q held asked = export q ≡ None → held ≡ None

-- what is exported is held just so, and isn't asked for again
abbrev pub IsHad : (Prefix → Option (List ℕ)) → Prefix → Option (List ℕ) → Bool → Type 0
IsHad export q held asked = (octets : List ℕ) → export q ≡ Some octets → (held ≡ Some octets) × (asked ≡ false)
