-- What the rows of the session table make of Established, of the connection and of what is said.
use Rattle.std.proofs.Common.{◌≡◌, ◌≢◌, ◌&&◌, ◌⊎◌, ℕ, true, false, not, Some, inl, inr, refl, arith}
use Rattle.std.proofs.lemmas.Grind.{common_steps}
use Rattle.net_prefix.specs.declared.transport.Transport.TheVariants.{None as NoConnection, Open as Connected, Closing}
use Rattle.bgp_msg.specs.declared.notification.SessionError.TheVariants.{HoldTimerExpired, UnexpectedMessage, AdministrativeShutdown, PeerDeconfigured, OutOfResources}
use Rattle.bgp_msg.specs.Notifications.{NotificationBody, error_notification}
use Rattle.bgp_fsm.specs.declared.state.State.{State}
use Rattle.bgp_fsm.specs.declared.state.State.TheVariants.{Idle, Connect, Active, OpenSent, OpenConfirm, Established}
use Rattle.bgp_fsm.specs.declared.input.Input.{Input}
use Rattle.bgp_fsm.specs.declared.input.Input.TheVariants.{Disable, Remove, Up, Fail, Open, UnexpectedOpen, Keepalive, Update, RouteRefresh, Notification, Fault, NoMemory, Expires}
use Rattle.bgp_fsm.specs.declared.timers.Timer.TheVariants.{Hold}
use Rattle.bgp_fsm.specs.declared.session.Outgoing.TheVariants.{Notification as Notify}
use Rattle.bgp_fsm.specs.declared.session.Session.{Session}
use Rattle.bgp_fsm.specs.SessionTable.{always, row_at, nothing, session_after, effects_of}
use Rattle.bgp_fsm.specs.StateTests.{is_established, is_message}
use Rattle.bgp_fsm.specs.TimerMoments.{stopped}
use Rattle.bgp_fsm.specs.Transports.{transport_at, transport_of}
use Rattle.bgp_fsm.specs.Laws.{ClosingIsTold}

-- `left` tells that Established ends
pub left_is : (now : ℕ) (input : Input) (s : Session) → (effects_of input s).left ≡ (is_established s.state && not (is_established (session_after now input s).state))
left_is now input s = grind (arith, common_steps)

-- `entered` tells that Established begins
pub entered_is : (now : ℕ) (input : Input) (s : Session) → (effects_of input s).entered ≡ (not (is_established s.state) && is_established (session_after now input s).state)
entered_is now input s = grind (arith, common_steps)

-- Established begins by a message
pub enters_by_message : (now : ℕ) (input : Input) (s : Session) → is_established s.state ≡ false → is_established (session_after now input s).state ≡ true → is_message input ≡ true
enters_by_message now input s other enters = grind (arith, common_steps)

-- while the connection stands, Established doesn't end
pub stays_established : (now : ℕ) (input : Input) (s : Session) → transport_of (session_after now input s) ≡ Connected → is_established s.state ≡ true → is_established (session_after now input s).state ≡ true
stays_established now input s stands is = grind (arith, common_steps)

-- while Established lasts, so does the peer's identifier
pub keeps_identifier : (now : ℕ) (input : Input) (s : Session) → is_established s.state ≡ true → is_established (session_after now input s).state ≡ true → (session_after now input s).identifier ≡ s.identifier
keeps_identifier now input s was is = grind (arith, common_steps)

-- the connection of an Established session stands
pub established_stands : (s : Session) → is_established s.state ≡ true → transport_of s ≡ Connected
established_stands s is = grind (arith, common_steps)

-- a lost connection ends Established
pub fail_ends : (now : ℕ) (s : Session) → is_established (session_after now Fail s).state ≡ false
fail_ends now s = grind (arith, common_steps)

-- a connection stands where it stood, or where it comes up
pub stood_before : (now : ℕ) (input : Input) (s : Session) → input ≢ Up → transport_of (session_after now input s) ≡ Connected → transport_of s ≡ Connected
stood_before now input s other stands = grind (arith, common_steps)

-- after a fault no connection stands
pub fault_closes : (now : ℕ) (told : NotificationBody) (s : Session) → transport_of (session_after now (Fault told) s) ≢ Connected
fault_closes now told s = grind (arith, common_steps)

-- nor after a want of memory
pub no_memory_closes : (now : ℕ) (s : Session) → transport_of (session_after now NoMemory s) ≢ Connected
no_memory_closes now s = grind (arith, common_steps)

-- without a connection no message is more than nothing
pub message_ignored : (input : Input) (s : Session) → is_message input ≡ true → transport_of s ≢ Connected → row_at s.state input s ≡ (always s, nothing)
message_ignored input s is shut = grind (arith, common_steps)

-- a removed peer's session is Idle, and no timer of it runs
pub remove_ends : (now : ℕ) (s : Session) → ((session_after now Remove s).state ≡ Idle) × ((session_after now Remove s).timers ≡ stopped)
remove_ends now s = (grind (arith, common_steps), grind (arith, common_steps))

-- where nothing is but a connection that is still to be closed, its loss leaves nothing
pub fail_leaves : (now : ℕ) (s : Session) → s.state ≡ Idle → s.timers ≡ stopped
    → ((session_after now Fail s).state ≡ Idle) × ((session_after now Fail s).timers ≡ stopped) × (transport_of (session_after now Fail s) ≡ NoConnection)
fail_leaves now s idle none = (rw idle refl, rw idle none, rw idle refl)

-- a connection that stands is closed by an input that says why, or by a NOTIFICATION
told_at : (now : ℕ) (state : State) (input : Input) (s : Session) → s.state ≡ state → transport_at state s ≡ Connected → transport_of ((row_at state input s).0 now) ≡ Closing
    → ((told : NotificationBody) × (input ≡ Notification told)) ⊎ ((told : NotificationBody) × ((row_at state input s).1.message ≡ Some (Notify told)))
told_at now Idle input s is stands closes = grind (arith, common_steps)
told_at now Connect input s is stands closes = grind (arith, common_steps)
told_at now Active input s is stands closes = grind (arith, common_steps)
told_at now state (Notification told) s is stands closes = inl (told, refl)
told_at now OpenSent Disable s is stands closes = inr (error_notification AdministrativeShutdown, refl)
told_at now OpenSent Remove s is stands closes = inr (error_notification PeerDeconfigured, refl)
told_at now OpenSent UnexpectedOpen s is stands closes = inr (error_notification UnexpectedMessage, refl)
told_at now OpenSent Keepalive s is stands closes = inr (error_notification UnexpectedMessage, refl)
told_at now OpenSent Update s is stands closes = inr (error_notification UnexpectedMessage, refl)
told_at now OpenSent (RouteRefresh asks) s is stands closes = inr (error_notification UnexpectedMessage, refl)
told_at now OpenSent (Fault told) s is stands closes = inr (told, refl)
told_at now OpenSent NoMemory s is stands closes = inr (error_notification OutOfResources, refl)
told_at now OpenSent (Expires Hold) s is stands closes = inr (error_notification HoldTimerExpired, refl)
told_at now OpenConfirm Disable s is stands closes = inr (error_notification AdministrativeShutdown, refl)
told_at now OpenConfirm Remove s is stands closes = inr (error_notification PeerDeconfigured, refl)
told_at now OpenConfirm (Open message) s is stands closes = inr (error_notification UnexpectedMessage, refl)
told_at now OpenConfirm UnexpectedOpen s is stands closes = inr (error_notification UnexpectedMessage, refl)
told_at now OpenConfirm Update s is stands closes = inr (error_notification UnexpectedMessage, refl)
told_at now OpenConfirm (RouteRefresh asks) s is stands closes = inr (error_notification UnexpectedMessage, refl)
told_at now OpenConfirm (Fault told) s is stands closes = inr (told, refl)
told_at now OpenConfirm NoMemory s is stands closes = inr (error_notification OutOfResources, refl)
told_at now OpenConfirm (Expires Hold) s is stands closes = inr (error_notification HoldTimerExpired, refl)
told_at now Established Disable s is stands closes = inr (error_notification AdministrativeShutdown, refl)
told_at now Established Remove s is stands closes = inr (error_notification PeerDeconfigured, refl)
told_at now Established (Open message) s is stands closes = inr (error_notification UnexpectedMessage, refl)
told_at now Established UnexpectedOpen s is stands closes = inr (error_notification UnexpectedMessage, refl)
told_at now Established (Fault told) s is stands closes = inr (told, refl)
told_at now Established NoMemory s is stands closes = inr (error_notification OutOfResources, refl)
told_at now Established (Expires Hold) s is stands closes = inr (error_notification HoldTimerExpired, refl)
told_at now state input s is stands closes = grind (arith, common_steps)

pub closing_is_told : ClosingIsTold
closing_is_told now input s stands closes = told_at now s.state input s refl stands closes
