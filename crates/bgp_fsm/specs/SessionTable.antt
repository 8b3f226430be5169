-- The session table (RFC 4271 section 8.2.2, in this profile): what a row leaves of the session, and what it does.
use Rattle.std.specs.Prelude.{ℕ, min, Bool, true, false, Option, Some, None, if◌then◌else◌}
use Rattle.bgp_attr.specs.declared.peer.Mode.{Mode}
use Rattle.bgp_attr.specs.declared.peer.Mode.TheVariants.{Passive}
use Rattle.bgp_attr.specs.declared.peer.Mode.TheVariants.{Active as Opener}
use Rattle.bgp_msg.specs.declared.open_message.Open.{Open as OpenMessage}
use Rattle.bgp_msg.specs.declared.open_message.OwnOpen.{OwnOpen as OwnOpenMessage}
use Rattle.bgp_msg.specs.declared.notification.SessionError.{SessionError}
use Rattle.bgp_msg.specs.declared.notification.SessionError.TheVariants.{HoldTimerExpired, UnexpectedMessage, AdministrativeShutdown, PeerDeconfigured, OutOfResources}
use Rattle.bgp_msg.specs.Notifications.{NotificationBody, error_notification}
use Rattle.bgp_fsm.specs.declared.state.State.{State}
use Rattle.bgp_fsm.specs.declared.state.State.TheVariants.{Idle, Connect, Active, OpenSent, OpenConfirm, Established}
use Rattle.bgp_fsm.specs.declared.input.Input.{Input}
use Rattle.bgp_fsm.specs.declared.input.Input.TheVariants.{Start, Disable, Remove, Up, Fail, Open, UnexpectedOpen, Keepalive, Update, RouteRefresh, Notification, Fault, NoMemory, Expires}
use Rattle.bgp_fsm.specs.declared.session.Outgoing.{Outgoing}
use Rattle.bgp_fsm.specs.declared.session.Outgoing.TheVariants.{Open as OwnOpen, Keepalive as OwnKeepalive, Notification as Notify}
use Rattle.bgp_fsm.specs.declared.session.Effects.{Effects}
use Rattle.bgp_fsm.specs.declared.session.Session.{Session}
use Rattle.bgp_fsm.specs.declared.timers.PeerTimers.{PeerTimers}
use Rattle.bgp_fsm.specs.declared.timers.Timer.TheVariants.{Hold, ConnectRetry, IdleHold, Keepalive as KeepaliveTimer}
use Rattle.bgp_fsm.specs.TimerMoments.{falling, hold_again, keepalive_again, only_connect_retry, only_hold, only_idle_hold, open_hold, opened_timers, stopped}
use Rattle.bgp_fsm.specs.StateTests.{is_established}

-- a row that does nothing beside its change of the session
abbrev pub nothing : Effects
nothing = record { message = None; opened = false; entered = false; left = false; refreshed = false; received = None }

-- a row that queues this message
abbrev pub says : Outgoing → Effects
says message = record { message = Some message; opened = false; entered = false; left = false; refreshed = false; received = None }

-- a row that begins a connection attempt
abbrev pub begins : Effects
begins = record { message = None; opened = true; entered = false; left = false; refreshed = false; received = None }

-- a row that begins Established
abbrev pub enters : Effects
enters = record { message = None; opened = false; entered = true; left = false; refreshed = false; received = None }

-- a row that ends Established
abbrev pub leaves : Effects
leaves = record { message = None; opened = false; entered = false; left = true; refreshed = false; received = None }

-- a row that ends Established and queues this message
abbrev pub leaves_saying : Outgoing → Effects
leaves_saying message = record { message = Some message; opened = false; entered = false; left = true; refreshed = false; received = None }

-- a row at which a ROUTE-REFRESH comes: whether the peer asks for all routes again
abbrev pub asked_again : Bool → Effects
asked_again asks = record { message = None; opened = false; entered = false; left = false; refreshed = asks; received = None }

-- a row at which the peer ends the session by this NOTIFICATION, and one at which it ends Established by it
abbrev pub receives : NotificationBody → Effects
receives told = record nothing { received = Some told }

abbrev pub leaves_receiving : NotificationBody → Effects
leaves_receiving told = record leaves { received = Some told }

-- the NOTIFICATION of an error that no message holds
abbrev pub error : SessionError → Outgoing
error why = Notify (error_notification why)

-- a session with no connection, of a peer that isn't enabled yet, whose timers run for these times
abbrev pub fresh : OwnOpenMessage → Mode → PeerTimers → Session
fresh own mode times = record { state = Idle; enabled = false; closing = false; identifier = 0; hold_time = 0; timers = stopped; own = own; mode = mode; times = times }

-- What a row leaves of the session. Where it starts a timer, this is by the moment at which its input comes.

-- this, whatever the moment
abbrev pub always : Session → ℕ → Session
always s now = s

-- the peer is enabled, and nothing else changes
abbrev pub marked : Session → Session
marked s = record s { enabled = true }

-- the peer is enabled, and its session begins after a while, since the last connection is still closing
abbrev pub resting : Session → ℕ → Session
resting s now = record s { enabled = true; timers = only_idle_hold now s.times.idle_hold }

-- the peer is disabled: no timer runs
abbrev pub disabled : Session → Session
disabled s = record s { enabled = false; timers = stopped }

-- the last connection is closed
abbrev pub shut : Session → Session
shut s = record s { closing = false }

-- the peer is enabled, and its connection is opened
abbrev pub connecting : Session → ℕ → Session
connecting s now = record s { state = Connect; enabled = true; timers = only_connect_retry now s.times.connect_retry }

-- the peer is enabled, and its connection is awaited
abbrev pub listening : Session → Session
listening s = record s { state = Active; enabled = true; timers = stopped }

-- the connection failed before the peer's OPEN came: it is opened again after a while, or awaited
abbrev pub failed : Mode → Session → ℕ → Session
failed Opener s now = record s { state = Active; timers = only_connect_retry now s.times.connect_retry }
failed Passive s now = record s { state = Active; timers = stopped }

-- the attempt ends with the peer's
abbrev pub given_up : Session → Session
given_up s = record s { state = Idle; enabled = false; closing = false; timers = stopped }

-- the connection stands, and the peer's OPEN is awaited
abbrev pub awaiting : Session → ℕ → Session
awaiting s now = record s { state = OpenSent; timers = only_hold now open_hold }

-- the peer's OPEN is accepted: the hold time is the smaller of both sides'
abbrev pub confirmed : OpenMessage → Session → ℕ → Session
confirmed message s now = record s {
  state = OpenConfirm;
  identifier = message.identifier;
  hold_time = min s.own.hold_time message.hold_time;
  timers = opened_timers (min s.own.hold_time message.hold_time) now;
}

-- the peer's KEEPALIVE has answered our own OPEN
abbrev pub established : Session → ℕ → Session
established s now = record s { state = Established; timers = hold_again s.hold_time now s.timers }

-- a message has come: the hold timer begins again
abbrev pub heard : Session → ℕ → Session
heard s now = record s { timers = hold_again s.hold_time now s.timers }

-- a KEEPALIVE goes: its timer begins again
abbrev pub kept_alive : Session → ℕ → Session
kept_alive s now = record s { timers = keepalive_again s.hold_time now s.timers }

-- the connection failed behind the peer's OPEN
abbrev pub fallen : Session → ℕ → Session
fallen s now = record s { state = Idle; closing = false; identifier = 0; hold_time = 0; timers = falling s.enabled now s.times.idle_hold }

-- the session goes to Idle, and its connection has still to be closed
abbrev pub closed : Session → ℕ → Session
closed s now = record s { state = Idle; closing = true; identifier = 0; hold_time = 0; timers = falling s.enabled now s.times.idle_hold }

-- the same, and the peer is disabled
abbrev pub ended : Session → Session
ended s = record s { state = Idle; enabled = false; closing = true; identifier = 0; hold_time = 0; timers = stopped }

-- an enabled peer without a connection begins: it opens the connection or listens for it
abbrev pub begun : Mode → Session → (ℕ → Session) × Effects
begun Opener s = (connecting s, begins)
begun Passive s = (always (listening s), nothing)

-- the same, or after a while where the last connection is still closing
abbrev pub started : Session → (ℕ → Session) × Effects
started s = if s.closing then (resting s, nothing) else begun s.mode s

-- a connection comes in Active, which only a passive peer awaits
abbrev pub accepted : Mode → Session → (ℕ → Session) × Effects
accepted Opener s = (always s, nothing)
accepted Passive s = (awaiting s, says (OwnOpen s.own))

-- an active peer's connection is opened again
abbrev pub reopened : Mode → Session → (ℕ → Session) × Effects
reopened Opener s = (connecting s, begins)
reopened Passive s = (always s, nothing)

-- the table: what the row leaves of the session, by the moment, and what it does beside it
abbrev pub row_at : State → Input → Session → (ℕ → Session) × Effects
row_at Idle Start s = started s
row_at Idle Disable s = (always (disabled s), nothing)
row_at Idle Remove s = (always (disabled s), nothing)
row_at Idle Fail s = (always (shut s), nothing)
row_at Idle (Expires IdleHold) s = started s
row_at Connect Start s = (always (marked s), nothing)
row_at Connect Disable s = (always (given_up s), nothing)
row_at Connect Remove s = (always (given_up s), nothing)
row_at Connect Up s = (awaiting s, says (OwnOpen s.own))
row_at Connect Fail s = (failed Opener s, nothing)
row_at Connect (Expires ConnectRetry) s = (connecting s, begins)
row_at Active Start s = (always (marked s), nothing)
row_at Active Disable s = (always (given_up s), nothing)
row_at Active Remove s = (always (given_up s), nothing)
row_at Active Up s = accepted s.mode s
row_at Active (Expires ConnectRetry) s = reopened s.mode s
row_at OpenSent Start s = (always (marked s), nothing)
row_at OpenSent Disable s = (always (ended s), says (error AdministrativeShutdown))
row_at OpenSent Remove s = (always (ended s), says (error PeerDeconfigured))
row_at OpenSent Fail s = (failed s.mode s, nothing)
row_at OpenSent (Open message) s = (confirmed message s, says OwnKeepalive)
row_at OpenSent UnexpectedOpen s = (closed s, says (error UnexpectedMessage))
row_at OpenSent Keepalive s = (closed s, says (error UnexpectedMessage))
row_at OpenSent Update s = (closed s, says (error UnexpectedMessage))
row_at OpenSent (RouteRefresh asks) s = (closed s, says (error UnexpectedMessage))
row_at OpenSent (Notification told) s = (closed s, receives told)
row_at OpenSent (Fault told) s = (closed s, says (Notify told))
row_at OpenSent NoMemory s = (closed s, says (error OutOfResources))
row_at OpenSent (Expires Hold) s = (closed s, says (error HoldTimerExpired))
row_at OpenConfirm Start s = (always (marked s), nothing)
row_at OpenConfirm Disable s = (always (ended s), says (error AdministrativeShutdown))
row_at OpenConfirm Remove s = (always (ended s), says (error PeerDeconfigured))
row_at OpenConfirm Fail s = (fallen s, nothing)
row_at OpenConfirm (Open message) s = (closed s, says (error UnexpectedMessage))
row_at OpenConfirm UnexpectedOpen s = (closed s, says (error UnexpectedMessage))
row_at OpenConfirm Keepalive s = (established s, enters)
row_at OpenConfirm Update s = (closed s, says (error UnexpectedMessage))
row_at OpenConfirm (RouteRefresh asks) s = (closed s, says (error UnexpectedMessage))
row_at OpenConfirm (Notification told) s = (closed s, receives told)
row_at OpenConfirm (Fault told) s = (closed s, says (Notify told))
row_at OpenConfirm NoMemory s = (closed s, says (error OutOfResources))
row_at OpenConfirm (Expires Hold) s = (closed s, says (error HoldTimerExpired))
row_at OpenConfirm (Expires KeepaliveTimer) s = (kept_alive s, says OwnKeepalive)
row_at Established Start s = (always (marked s), nothing)
row_at Established Disable s = (always (ended s), leaves_saying (error AdministrativeShutdown))
row_at Established Remove s = (always (ended s), leaves_saying (error PeerDeconfigured))
row_at Established Fail s = (fallen s, leaves)
row_at Established (Open message) s = (closed s, leaves_saying (error UnexpectedMessage))
row_at Established UnexpectedOpen s = (closed s, leaves_saying (error UnexpectedMessage))
row_at Established Keepalive s = (heard s, nothing)
row_at Established Update s = (heard s, nothing)
row_at Established (RouteRefresh asks) s = (heard s, asked_again asks)
row_at Established (Notification told) s = (closed s, leaves_receiving told)
row_at Established (Fault told) s = (closed s, leaves_saying (Notify told))
row_at Established NoMemory s = (closed s, leaves_saying (error OutOfResources))
row_at Established (Expires Hold) s = (closed s, leaves_saying (error HoldTimerExpired))
row_at Established (Expires KeepaliveTimer) s = (kept_alive s, says OwnKeepalive)
-- any other pair of state and input is ignored
row_at other input s = (always s, nothing)

-- what an input at this moment leaves of the session
abbrev pub session_after : ℕ → Input → Session → Session
session_after now input s = (row_at s.state input s).0 now

-- what an input does beside it, at any moment
abbrev pub effects_of : Input → Session → Effects
effects_of input s = (row_at s.state input s).1

-- what a row does that takes the session out of this state, where the peer is told this, if anything
abbrev pub leaving : State → Option Outgoing → Effects
leaving state message = record { message = message; opened = false; entered = false; left = is_established state; refreshed = false; received = None }
