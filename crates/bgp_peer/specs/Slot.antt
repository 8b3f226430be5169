-- What others see of a slot, and what each thing that happens makes of it.
use Rattle.std.specs.Prelude.{◌≡◌, ℕ, ◌+◌, ◌≤◌, ◌||◌, nat_le, if◌then◌else◌, Bool, List, [], ◌++◌, length, drop, Option, Some, None}
use Rattle.net_prefix.specs.declared.transport.Transport.TheVariants.{Open as Connected}
use Rattle.bgp_attr.specs.declared.peer.Mode.{Mode}
use Rattle.bgp_msg.specs.declared.open_message.OwnOpen.{OwnOpen as OwnOpenMessage}
use Rattle.bgp_msg.specs.declared.frame.Step.{Step}
use Rattle.bgp_msg.specs.declared.frame.Step.TheVariants.{Need, Message, Faulty}
use Rattle.bgp_msg.specs.MessageSpelling.{told_length, open_of, header_of}
use Rattle.bgp_msg.specs.declared.frame.MessageType.TheVariants.{Keepalive as KeepaliveMessage}
use Rattle.bgp_msg.specs.declared.fault.HeaderFault.{HeaderFault}
use Rattle.bgp_msg.specs.MessageFaults.{header_fault}
use Rattle.bgp_msg.specs.MessageLimits.{max_message}
use Rattle.bgp_msg.specs.Notifications.{notification_of}
use Rattle.bgp_msg.specs.MessageStream.{Item, WholeMessage, FaultyHeader, messages, unread, with_front, left_over}
use Rattle.bgp_fsm.specs.declared.input.Input.{Input}
use Rattle.bgp_fsm.specs.declared.input.Input.TheVariants.{Start, Disable, Remove, Up, Fail, Open as OpenInput, UnexpectedOpen, Keepalive as KeepaliveInput, Update, RouteRefresh, Notification, Fault, NoMemory, Expires}
use Rattle.bgp_fsm.specs.declared.session.Session.{Session}
use Rattle.bgp_fsm.specs.declared.session.Outgoing.{Outgoing}
use Rattle.bgp_fsm.specs.declared.timers.PeerTimers.{PeerTimers}
use Rattle.bgp_fsm.specs.declared.session.Outgoing.TheVariants.{Open, Keepalive, Notification as Notify}
use Rattle.bgp_fsm.specs.SessionTable.{fresh, session_after, effects_of}
use Rattle.bgp_fsm.specs.StateTests.{is_notification}
use Rattle.bgp_fsm.specs.Transports.{transport_of}
use Rattle.bgp_peer.specs.PeerLimits.{ring_octets, room_for_update}

-- the session, what has come of the message that is being received, and what is queued and not yet taken
pub record Slot : Type 0 where
  pub session : Session
  pub rest : List ℕ
  pub ring : List ℕ

-- while the connection stands, the longest message still fits into the ring
abbrev pub CanBeTold : Session → List ℕ → Type 0
CanBeTold s ring = transport_of s ≡ Connected → length ring + max_message ≤ ring_octets

-- the rest doesn't go beyond the message or the faulty header at its front, and the ring holds 65,536 octets
pub record IsInOrder (s : Session) (rest ring : List ℕ) (capacity : ℕ) : Type 0 where
  pub capacity_is : capacity ≡ ring_octets
  pub fits : length ring ≤ ring_octets
  pub can_be_told : CanBeTold s ring
  pub one_message : 19 ≤ length rest → header_fault rest ≡ None → length rest ≤ told_length rest
  pub header_alone : (fault : HeaderFault) → 19 ≤ length rest → header_fault rest ≡ Some fault → length rest ≡ 19

-- a message at the front is all of the rest
abbrev pub IsWholeRest : List ℕ → Step → Type 0
IsWholeRest rest Need = Unit {0}
IsWholeRest rest (Message frame used) = used ≡ length rest
IsWholeRest rest (Faulty fault) = Unit {0}

-- the item that a reader's answer is, if it is one
abbrev pub item_of_step : Step → Option Item
item_of_step Need = None
item_of_step (Message frame used) = Some (WholeMessage frame.kind frame.body.now)
item_of_step (Faulty fault) = Some (FaultyHeader fault)

-- that item, if there is one, is all that the rest holds
abbrev pub HoldsOnly : List ℕ → Step → Type 0
HoldsOnly rest step = (messages rest ≡ with_front (item_of_step step) []) × (unread rest ≡ left_over rest (item_of_step step))

-- the octets of what a row queues (RFC 4271 section 4)
abbrev pub octets_of : Option Outgoing → List ℕ
octets_of None = []
octets_of (Some (Open own)) = open_of own.multiprotocol own.asn.0 own.hold_time own.identifier
octets_of (Some Keepalive) = header_of KeepaliveMessage 19
octets_of (Some (Notify told)) = notification_of told

-- a NOTIFICATION is queued whatever is free, any other message where 8,192 octets are free
abbrev pub is_queued : Option Outgoing → List ℕ → Bool
is_queued message ring = is_notification message || nat_le (length ring + room_for_update) ring_octets

-- what a row adds to this ring: its message, where it is queued
abbrev pub said : Option Outgoing → List ℕ → List ℕ
said message ring = if is_queued message ring then octets_of message else []

-- a slot whose peer is configured and not enabled
abbrev pub configured : OwnOpenMessage → Mode → PeerTimers → Slot
configured own mode times = record { session = fresh own mode times; rest = []; ring = [] }

-- these octets have come
abbrev pub pushed : Slot → List ℕ → Slot
pushed s octets = record { session = s.session; rest = s.rest ++ octets; ring = s.ring }

-- what an input leaves of octets of the connection: a connection that comes up or fails leaves nothing of the one before
abbrev pub kept : Input → List ℕ → List ℕ
kept Start octets = octets
kept Disable octets = octets
kept Remove octets = octets
kept Up octets = []
kept Fail octets = []
kept (OpenInput message) octets = octets
kept UnexpectedOpen octets = octets
kept KeepaliveInput octets = octets
kept Update octets = octets
kept (RouteRefresh asks) octets = octets
kept (Notification told) octets = octets
kept (Fault told) octets = octets
kept NoMemory octets = octets
kept (Expires timer) octets = octets

-- what an input leaves of the rest: nothing of a message that it is, or that is being received where memory is refused
abbrev pub rest_after : Input → List ℕ → List ℕ
rest_after Start rest = rest
rest_after Disable rest = rest
rest_after Remove rest = rest
rest_after Up rest = []
rest_after Fail rest = []
rest_after (OpenInput message) rest = []
rest_after UnexpectedOpen rest = []
rest_after KeepaliveInput rest = []
rest_after Update rest = []
rest_after (RouteRefresh asks) rest = []
rest_after (Notification told) rest = []
rest_after (Fault told) rest = []
rest_after NoMemory rest = []
rest_after (Expires timer) rest = rest

-- the session takes this input, at this moment: what the input ends is dropped, and what its row says is queued
abbrev pub taken_input : ℕ → Slot → Input → Slot
taken_input now s input = record {
  session = session_after now input s.session;
  rest = rest_after input s.rest;
  ring = kept input s.ring ++ said (effects_of input s.session).message (kept input s.ring);
}

-- a message is queued
abbrev pub queued : Slot → List ℕ → Slot
queued s message = record { session = s.session; rest = s.rest; ring = s.ring ++ message }

-- so many of the first octets of the ring are handed out
abbrev pub handed : Slot → ℕ → Slot
handed s count = record { session = s.session; rest = s.rest; ring = drop count s.ring }
