-- Laws of the session table, in the words of RFC 4271 section 8.2.2.
use Rattle.std.specs.Prelude.{◌≡◌, ◌≢◌, ◌↔◌, ◌⊎◌, ◌&&◌, ◌||◌, ℕ, min, Bool, true, is_none, Some, None}
use Rattle.bgp_attr.specs.declared.peer.Mode.TheVariants.{Active as Opener}
use Rattle.net_prefix.specs.declared.transport.Transport.TheVariants.{Open as Connected, Closing, Listening, Opening}
use Rattle.bgp_msg.specs.declared.open_message.Open.{Open as OpenMessage}
use Rattle.bgp_msg.specs.declared.open_message.OwnOpen.{OwnOpen as OwnOpenMessage}
use Rattle.bgp_msg.specs.Notifications.{NotificationBody}
use Rattle.bgp_fsm.specs.declared.state.State.{State}
use Rattle.bgp_fsm.specs.declared.state.State.TheVariants.{Idle, Connect, Active, OpenSent, OpenConfirm, Established}
use Rattle.bgp_fsm.specs.declared.input.Input.{Input}
use Rattle.bgp_fsm.specs.declared.input.Input.TheVariants.{Up, Open, Keepalive, RouteRefresh, Notification as NotificationInput, Expires}
use Rattle.bgp_fsm.specs.declared.timers.Timer.TheVariants.{ConnectRetry}
use Rattle.bgp_fsm.specs.declared.timers.Timers.{Timers}
use Rattle.bgp_fsm.specs.declared.session.Outgoing.TheVariants.{Open as OwnOpen, Notification as Notify}
use Rattle.bgp_fsm.specs.declared.session.Session.{Session}
use Rattle.bgp_fsm.specs.SessionTable.{session_after, effects_of}
use Rattle.bgp_fsm.specs.StateTests.{is_message}
use Rattle.bgp_fsm.specs.TimerMoments.{hold_again, only_connect_retry, only_hold, only_idle_hold, opened_timers}
use Rattle.bgp_fsm.specs.Transports.{transport_of}

-- Established is entered only from OpenConfirm, by a KEEPALIVE
abbrev pub EstablishedBegins : Type 0
EstablishedBegins =
    (now : ℕ) (input : Input) (s : Session) → s.state ≢ Established → (session_after now input s).state ≡ Established
    → (s.state ≡ OpenConfirm) × (input ≡ Keepalive)

-- `entered` tells exactly that Established begins
abbrev pub EnteredTells : Type 0
EnteredTells =
    (now : ℕ) (input : Input) (s : Session)
    → ((effects_of input s).entered ≡ true) ↔ ((s.state ≢ Established) × ((session_after now input s).state ≡ Established))

-- `left` tells exactly that Established ends
abbrev pub LeftTells : Type 0
LeftTells =
    (now : ℕ) (input : Input) (s : Session)
    → ((effects_of input s).left ≡ true) ↔ ((s.state ≡ Established) × ((session_after now input s).state ≢ Established))

-- `refreshed` tells exactly that the peer of an Established session asks for all routes again (RFC 2918 section 4)
abbrev pub RefreshedTells : Type 0
RefreshedTells =
    (input : Input) (s : Session) → ((effects_of input s).refreshed ≡ true) ↔ ((s.state ≡ Established) × (input ≡ RouteRefresh true))

-- an OPEN is queued only when the connection stands that was opened or awaited, and it is our own
abbrev pub OpenAnswersUp : Type 0
OpenAnswersUp =
    (now : ℕ) (input : Input) (s : Session) (message : OwnOpenMessage) → (effects_of input s).message ≡ Some (OwnOpen message)
    → ((transport_of s ≡ Opening) ⊎ (transport_of s ≡ Listening)) × (input ≡ Up) × ((session_after now input s).state ≡ OpenSent) × (message ≡ s.own)

-- `opened` tells exactly that a connection attempt begins: the session enters Connect, or tries again there when the
-- ConnectRetryTimer ends
abbrev pub OpenedTells : Type 0
OpenedTells =
    (now : ℕ) (input : Input) (s : Session)
    → ((effects_of input s).opened ≡ true) ↔ (((session_after now input s).state ≡ Connect) × ((s.state ≢ Connect) ⊎ (input ≡ Expires ConnectRetry)))

-- each timer runs only where its end may mean something, and none of a disabled peer in Idle
abbrev pub fit : State → Bool → Timers → Bool
fit Idle enabled timers = is_none timers.hold && is_none timers.connect_retry && is_none timers.keepalive && (enabled || is_none timers.idle_hold)
fit Connect enabled timers = is_none timers.hold && is_none timers.idle_hold && is_none timers.keepalive
fit Active enabled timers = is_none timers.hold && is_none timers.idle_hold && is_none timers.keepalive
fit OpenSent enabled timers = is_none timers.connect_retry && is_none timers.idle_hold && is_none timers.keepalive
fit OpenConfirm enabled timers = is_none timers.connect_retry && is_none timers.idle_hold
fit Established enabled timers = is_none timers.connect_retry && is_none timers.idle_hold

-- so it is at first, and stays
abbrev pub TimersFit : Type 0
TimersFit =
    (now : ℕ) (input : Input) (s : Session) → fit s.state s.enabled s.timers ≡ true
    → fit (session_after now input s).state (session_after now input s).enabled (session_after now input s).timers ≡ true

-- entering OpenSent begins the hold timer, with a large value (section 8.2.2), and no other runs
abbrev pub OpenIsAwaited : Type 0
OpenIsAwaited =
    (now : ℕ) (input : Input) (s : Session) → s.state ≢ OpenSent → (session_after now input s).state ≡ OpenSent
    → (session_after now input s).timers ≡ only_hold now 240

-- for how long a session's timers run stays as its peer was configured
abbrev pub TimesStay : Type 0
TimesStay = (now : ℕ) (input : Input) (s : Session) → (session_after now input s).times ≡ s.times

-- a connection attempt begins the ConnectRetryTimer, with the time of the session's peer, and so does its failure
abbrev pub AttemptsAreRetried : Type 0
AttemptsAreRetried =
    (now : ℕ) (input : Input) (s : Session)
    → ((effects_of input s).opened ≡ true → (session_after now input s).timers ≡ only_connect_retry now s.times.connect_retry)
    × (s.mode ≡ Opener → s.state ≢ Active → (session_after now input s).state ≡ Active → (session_after now input s).timers ≡ only_connect_retry now s.times.connect_retry)

-- where an enabled peer falls to Idle, the IdleHoldTimer begins, with the time of that peer, so that its session begins again
abbrev pub FallsAndRises : Type 0
FallsAndRises =
    (now : ℕ) (input : Input) (s : Session) → s.state ≢ Idle → (session_after now input s).state ≡ Idle → (session_after now input s).enabled ≡ true
    → (session_after now input s).timers ≡ only_idle_hold now s.times.idle_hold

-- a good OPEN agrees on the smaller hold time (section 4.2), and both timers begin by it
abbrev pub HoldTimeIsAgreed : Type 0
HoldTimeIsAgreed =
    (now : ℕ) (message : OpenMessage) (s : Session) → s.state ≡ OpenSent
    → ((session_after now (Open message) s).state ≡ OpenConfirm) × ((session_after now (Open message) s).hold_time ≡ min s.own.hold_time message.hold_time)
    × ((session_after now (Open message) s).timers ≡ opened_timers (min s.own.hold_time message.hold_time) now)

-- where the session stays Established by a message, or enters it, the hold timer begins again, and no other changes
abbrev pub MessagesHold : Type 0
MessagesHold =
    (now : ℕ) (input : Input) (s : Session) → is_message input ≡ true → (session_after now input s).state ≡ Established
    → (session_after now input s).timers ≡ hold_again s.hold_time now s.timers

-- only a session whose connection stands begins to close it
abbrev pub ClosesWhatIsOpen : Type 0
ClosesWhatIsOpen =
    (now : ℕ) (input : Input) (s : Session) → transport_of s ≢ Closing → transport_of (session_after now input s) ≡ Closing
    → transport_of s ≡ Connected

-- a session that begins to close a connection that stands says why, unless a NOTIFICATION came
abbrev pub ClosingIsTold : Type 0
ClosingIsTold =
    (now : ℕ) (input : Input) (s : Session) → transport_of s ≡ Connected → transport_of (session_after now input s) ≡ Closing
    → ((told : NotificationBody) × (input ≡ NotificationInput told)) ⊎ ((told : NotificationBody) × ((effects_of input s).message ≡ Some (Notify told)))

-- and says it nowhere else: behind a NOTIFICATION the connection is closed
abbrev pub NotificationsClose : Type 0
NotificationsClose =
    (now : ℕ) (input : Input) (s : Session) (told : NotificationBody) → (effects_of input s).message ≡ Some (Notify told)
    → (transport_of s ≡ Connected) × (transport_of (session_after now input s) ≡ Closing)

-- a NOTIFICATION that came is never answered
abbrev pub NotificationIsUnanswered : Type 0
NotificationIsUnanswered = (told : NotificationBody) (s : Session) → (effects_of (NotificationInput told) s).message ≡ None

-- what it says is handed on just as it came, where the connection stands
abbrev pub NotificationIsReceived : Type 0
NotificationIsReceived = (told : NotificationBody) (s : Session) → transport_of s ≡ Connected → (effects_of (NotificationInput told) s).received ≡ Some told

-- and by nothing else is any handed on
abbrev pub ReceivedTells : Type 0
ReceivedTells = (input : Input) (s : Session) (told : NotificationBody) → (effects_of input s).received ≡ Some told → input ≡ NotificationInput told
