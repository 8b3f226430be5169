-- What happens to a slot, and what that is to its session (RFC 4271 sections 4.1 and 8.1).
use Rattle.std.specs.Prelude.{ℕ, ◌||◌, Bool, false, List, [], ◌∷◌, ◌++◌, Option, Some, None, is_some, if◌then◌else◌}
use Rattle.std.specs.Option.{option_map}
use Rattle.net_prefix.specs.declared.asn.Asn.{Asn}
use Rattle.bgp_attr.specs.declared.peer.Mode.{Mode}
use Rattle.bgp_attr.specs.declared.peer.Mode.TheVariants.{Passive}
use Rattle.bgp_attr.specs.declared.peer.PeerKind.{PeerKind}
use Rattle.bgp_attr.specs.PeerKinds.{kind_between}
use Rattle.bgp_attr.specs.AttributeFaults.{Fault as UpdateFault}
use Rattle.bgp_msg.specs.declared.frame.MessageType.TheVariants.{Open as OpenType, Update as UpdateType, Notification as NotificationType, Keepalive as KeepaliveType, RouteRefresh as RouteRefreshType}
use Rattle.bgp_msg.specs.declared.fault.OpenFault.{OpenFault}
use Rattle.bgp_msg.specs.declared.open_message.Open.{Open as OpenMessage}
use Rattle.bgp_msg.specs.declared.open_message.OwnOpen.{OwnOpen as OwnOpenMessage}
use Rattle.bgp_msg.specs.declared.open_message.Expected.{Expected}
use Rattle.bgp_msg.specs.MessageFaults.{open_fault, hold_time_at, identifier_at}
use Rattle.bgp_msg.specs.Notifications.{header_notification, notification_told, open_notification, update_notification}
use Rattle.bgp_msg.specs.MessageStream.{Item, WholeMessage, FaultyHeader, completed, unread}
use Rattle.bgp_msg.specs.RouteRefresh.{is_ipv4_unicast}
use Rattle.bgp_msg.specs.UpdateMeaning.{update_fault}
use Rattle.bgp_fsm.specs.declared.state.State.{State}
use Rattle.bgp_fsm.specs.declared.input.Input.{Input}
use Rattle.bgp_fsm.specs.declared.input.Input.TheVariants.{Remove, Open, UnexpectedOpen, Keepalive, Update, RouteRefresh, Notification, Fault, Expires}
use Rattle.bgp_fsm.specs.declared.timers.PeerTimers.{PeerTimers}
use Rattle.bgp_fsm.specs.declared.timers.Timer.{Timer}
use Rattle.bgp_fsm.specs.declared.timers.Timer.TheVariants.{Hold, ConnectRetry, IdleHold, Keepalive as KeepaliveTimer}
use Rattle.bgp_fsm.specs.TimerMoments.{has_ended, usual}
use Rattle.bgp_fsm.specs.declared.session.Session.{Session}
use Rattle.bgp_fsm.specs.SessionTable.{fresh, session_after}
use Rattle.bgp_fsm.specs.StateTests.{is_established, awaits_open}
use Rattle.bgp_fsm.specs.Transports.{is_closing, transport_of}
use Rattle.bgp_peer.specs.Slot.{kept}

-- what a slot's peer is configured with: the OPEN that this side sends, which side opens the connection, the peer's AS
pub record Terms : Type 0 where
  pub own : OwnOpenMessage
  pub mode : Mode
  pub peer_asn : Asn

-- what happens to a slot
pub data Event : Type 0 where
  Configured : (terms : Terms) (times : PeerTimers) → Event  -- a peer is configured, in place of any before, and for how long its timers run
  Signalled : (input : Input) → Event  -- an input that no octet brings: of the operator, of the connection, of a timer that has ended, or want of memory
  Octet : (octet : ℕ) → Event  -- an octet comes on the connection
  Queued : (update : List ℕ) → Event  -- an UPDATE is queued
  Handed : (octets : List ℕ) → Event  -- octets are handed out
  Ticked : (now : ℕ) → Event  -- a moment comes, in seconds

-- what an input leaves of a peer that is configured: one that is removed isn't any more
abbrev pub staying : Input → Option Terms → Option Terms
staying Remove found = None
staying input found = found

-- the terms of a peer that is configured, after a history, which has the newest first
abbrev pub occupant : List Event → Option Terms
occupant [] = None
occupant (Configured terms times ∷ h) = Some terms
occupant (Signalled input ∷ h) = staying input (occupant h)
occupant (Octet octet ∷ h) = occupant h
occupant (Queued update ∷ h) = occupant h
occupant (Handed octets ∷ h) = occupant h
occupant (Ticked now ∷ h) = occupant h

-- the terms of a slot without a peer
abbrev pub nobody : Terms
nobody = record { own = record { asn = record { 0 = 0 }; hold_time = 0; identifier = 0; multiprotocol = false }; mode = Passive; peer_asn = record { 0 = 0 } }

-- those of a peer, if there is one
abbrev pub terms_from : Option Terms → Terms
terms_from None = nobody
terms_from (Some terms) = terms

-- the terms in force after a history
abbrev pub terms_of : List Event → Terms
terms_of h = terms_from (occupant h)

-- the octets that came on the present connection, the oldest first
abbrev pub stream : List Event → List ℕ
stream [] = []
stream (Configured terms times ∷ h) = []
stream (Signalled input ∷ h) = kept input (stream h)
stream (Octet octet ∷ h) = stream h ++ octet ∷ []
stream (Queued update ∷ h) = stream h
stream (Handed octets ∷ h) = stream h
stream (Ticked now ∷ h) = stream h

-- the moment at which the newest event came, and with it its inputs: that of the last tick, 0 before the first
abbrev pub moment_of : List Event → ℕ
moment_of [] = 0
moment_of (Configured terms times ∷ h) = moment_of h
moment_of (Signalled input ∷ h) = moment_of h
moment_of (Octet octet ∷ h) = moment_of h
moment_of (Queued update ∷ h) = moment_of h
moment_of (Handed octets ∷ h) = moment_of h
moment_of (Ticked now ∷ h) = now

-- the item of the stream that this octet completes, coming next
abbrev pub item_at : List Event → ℕ → Option Item
item_at h octet = completed (unread (stream h)) octet

-- what the peer's OPEN is judged against
abbrev pub expected_of : Terms → Expected
expected_of terms = record { peer_asn = terms.peer_asn; own_asn = terms.own.asn; own_identifier = terms.own.identifier }

-- the kind of peer by whose rules its UPDATEs are judged
abbrev pub kind_of : Terms → PeerKind
kind_of terms = kind_between terms.own.asn terms.peer_asn

-- what an OPEN without a fault tells
abbrev pub open_told : Terms → List ℕ → OpenMessage
open_told terms body = record { asn = terms.peer_asn; hold_time = hold_time_at body; identifier = identifier_at body }

-- what the OPEN with this body is to a session that awaits it
abbrev pub open_input : Terms → List ℕ → Option OpenFault → Input
open_input terms body None = Open (open_told terms body)
open_input terms body (Some fault) = Fault (open_notification fault)

-- what an UPDATE is to an Established session
abbrev pub update_input : Option UpdateFault → Input
update_input None = Update
update_input (Some fault) = Fault (update_notification fault)

-- what an item of the stream is to a session in this state: only the body of a message that the state awaits is read
abbrev pub input_of : State → Terms → Item → Input
input_of state terms (FaultyHeader fault) = Fault (header_notification fault)
input_of state terms (WholeMessage OpenType body) = if awaits_open state then open_input terms body (open_fault body (expected_of terms)) else UnexpectedOpen
input_of state terms (WholeMessage UpdateType body) = if is_established state then update_input (update_fault (kind_of terms) body) else Update
input_of state terms (WholeMessage KeepaliveType body) = Keepalive
input_of state terms (WholeMessage NotificationType body) = Notification (notification_told body)
input_of state terms (WholeMessage RouteRefreshType body) = RouteRefresh (is_ipv4_unicast body)

-- an input, if there is one
abbrev pub listed : Option Input → List Input
listed None = []
listed (Some input) = input ∷ []

-- what an event is to a session in this state, the newest input first: an octet is the input that it completes
abbrev pub inputs_at : State → List Event → Event → List Input
inputs_at state h (Configured terms times) = []
inputs_at state h (Signalled input) = input ∷ []
inputs_at state h (Octet octet) = listed (option_map (input_of state (terms_of h)) (item_at h octet))
inputs_at state h (Queued update) = []
inputs_at state h (Handed octets) = []
inputs_at state h (Ticked now) = []

-- a session after these inputs, which came at this moment: the rows of the session table one after another
abbrev pub after : ℕ → List Input → Session → Session
after now [] s = s
after now (input ∷ inputs) s = session_after now input (after now inputs s)

-- a configuration begins a session, in place of the one before
abbrev pub restarted : Event → Session → Session
restarted (Configured terms times) s = fresh terms.own terms.mode times
restarted (Signalled input) s = s
restarted (Octet octet) s = s
restarted (Queued update) s = s
restarted (Handed octets) s = s
restarted (Ticked now) s = s

-- the session after a history
abbrev pub session : List Event → Session
session [] = fresh nobody.own nobody.mode usual
session (e ∷ h) = after (moment_of (e ∷ h)) (inputs_at (session h).state h e) (restarted e (session h))

-- the slot is there: a peer is configured, or the connection of one that was removed is still closing
abbrev pub is_there : List Event → Bool
is_there h = is_some (occupant h) || is_closing (transport_of (session h))

-- what an event is to the session, coming next
abbrev pub inputs_of : List Event → Event → List Input
inputs_of h e = inputs_at (session h).state h e

-- octets come one after another
abbrev pub onto : List ℕ → List Event → List Event
onto [] h = h
onto (octet ∷ octets) h = onto octets (Octet octet ∷ h)

-- the end of a timer, where it has ended at this moment
abbrev pub ending : Timer → ℕ → List Event → List Event
ending timer now h = if has_ended timer now (session h).timers then Signalled (Expires timer) ∷ h else h

-- the ends of these timers, one after another, each judged by the session as it then stands
abbrev pub endings : List Timer → ℕ → List Event → List Event
endings [] now h = h
endings (timer ∷ timers) now h = endings timers now (ending timer now h)

-- the timers in the order in which a moment ends them
abbrev pub timers : List Timer
timers = Hold ∷ ConnectRetry ∷ IdleHold ∷ KeepaliveTimer ∷ []

-- a moment comes, and ends the timers that have ended then
abbrev pub ticked : ℕ → List Event → List Event
ticked now h = endings timers now (Ticked now ∷ h)
