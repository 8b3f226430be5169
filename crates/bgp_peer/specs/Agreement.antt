-- When a slot is as a history leaves it (RFC 4271 sections 4 and 8.2.2).
use Rattle.std.specs.Prelude.{◌≡◌, ℕ, ◌+◌, ◌≤◌, List, [], ◌∷◌, ◌++◌, Some, length}
use Rattle.net_prefix.specs.declared.transport.Transport.TheVariants.{Open as Connected}
use Rattle.bgp_msg.specs.declared.frame.MessageType.TheVariants.{Update}
use Rattle.bgp_msg.specs.MessageStream.{Item, IsMessage, completed, unread}
use Rattle.bgp_fsm.specs.declared.state.State.TheVariants.{Established}
use Rattle.bgp_fsm.specs.Transports.{transport_of}
use Rattle.bgp_peer.specs.Slot.{Slot}
use Rattle.bgp_peer.specs.SessionInputs.{Event, Configured, Signalled, Octet, Queued, Handed, Ticked, stream, session}
use Rattle.bgp_peer.specs.SentMessages.{given, sent, ring_of}
use Rattle.bgp_peer.specs.PeerLimits.{ring_octets, room_for_update}

-- the octets are one UPDATE, from the first to the last
abbrev pub IsUpdateMessage : List ℕ → Type 0
IsUpdateMessage octets = (body : List ℕ) × IsMessage octets Update body

-- an UPDATE is queued only while the session is Established, whole, and where 8,192 octets are free
abbrev pub MayQueue : List Event → List ℕ → Type 0
MayQueue h update = ((session h).state ≡ Established) × IsUpdateMessage update × (length (ring_of h) + room_for_update ≤ ring_octets)

-- so was each UPDATE since the last configuration
abbrev pub Lawful : List Event → Type 0
Lawful [] = Unit {0}
Lawful (Configured terms times ∷ h) = Unit {0}
Lawful (Signalled input ∷ h) = Lawful h
Lawful (Octet octet ∷ h) = Lawful h
Lawful (Queued update ∷ h) = MayQueue h update × Lawful h
Lawful (Handed octets ∷ h) = Lawful h
Lawful (Ticked now ∷ h) = Lawful h

-- the session of the slot is the one that the session table gives
abbrev pub HasSession : List Event → Slot → Type 0
HasSession h p = p.session ≡ session h

-- while the connection stands, the rest of the slot is what no message of the stream has taken
abbrev pub HasRest : List Event → Slot → Type 0
HasRest h p = transport_of (session h) ≡ Connected → p.rest ≡ unread (stream h)

-- the ring holds what was queued on the connection and not yet handed out
abbrev pub HasRing : List Event → Slot → Type 0
HasRing h p = given h ++ p.ring ≡ sent h

-- what was queued is a list of whole messages; a faulty header among them would stay unread
abbrev pub SendsWhole : List Event → Type 0
SendsWhole h = unread (sent h) ≡ []

-- the slot is as this history leaves it
pub record PeerAgrees (h : List Event) (p : Slot) : Type 0 where
  pub session : HasSession h p
  pub rest : HasRest h p
  pub ring : HasRing h p
  pub whole : SendsWhole h
  pub lawful : Lawful h

-- the slot with this in place of its rest
abbrev pub holding : List ℕ → Slot → Slot
holding rest p = record { session = p.session; rest = rest; ring = p.ring }

-- the slot is as this history leaves it, but that the item that its last octet completes isn't taken yet
pub record IsHearing (h : List Event) (item : Item) (p : Slot) : Type 0 where
  pub octet : ℕ
  pub before : List Event
  pub part : List ℕ
  pub history_is : h ≡ Octet octet ∷ before
  pub rest_is : p.rest ≡ part ++ octet ∷ []
  pub whole : completed part octet ≡ Some item
  pub connected : transport_of p.session ≡ Connected
  pub agrees : PeerAgrees before (holding part p)
