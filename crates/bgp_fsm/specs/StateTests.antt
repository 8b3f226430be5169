-- What is asked of a state, of an input, and of what is queued.
use Rattle.std.specs.Prelude.{Bool, true, false, Option, Some, None}
use Rattle.bgp_fsm.specs.declared.state.State.{State}
use Rattle.bgp_fsm.specs.declared.state.State.TheVariants.{Idle, Connect, Active, OpenSent, OpenConfirm, Established}
use Rattle.bgp_fsm.specs.declared.input.Input.{Input}
use Rattle.bgp_fsm.specs.declared.session.Outgoing.{Outgoing}
use Rattle.bgp_fsm.specs.declared.session.Outgoing.TheVariants.{Open as OwnOpen, Keepalive as OwnKeepalive, Notification as Notify}
use Rattle.bgp_fsm.specs.declared.input.Input.TheVariants.{Start, Disable, Remove, Up, Fail, Open, UnexpectedOpen, Keepalive, Update, RouteRefresh, Notification, Fault, NoMemory, Expires}

-- routes are exchanged
abbrev pub is_established : State → Bool
is_established Idle = false
is_established Connect = false
is_established Active = false
is_established OpenSent = false
is_established OpenConfirm = false
is_established Established = true

-- the peer's OPEN is awaited
abbrev pub awaits_open : State → Bool
awaits_open Idle = false
awaits_open Connect = false
awaits_open Active = false
awaits_open OpenSent = true
awaits_open OpenConfirm = false
awaits_open Established = false

-- a message of the peer, and neither the operator nor the connection itself nor want of memory nor a timer
abbrev pub is_message : Input → Bool
is_message Start = false
is_message Disable = false
is_message Remove = false
is_message Up = false
is_message Fail = false
is_message (Open message) = true
is_message UnexpectedOpen = true
is_message Keepalive = true
is_message Update = true
is_message (RouteRefresh asks) = true
is_message (Notification told) = true
is_message (Fault told) = true
is_message NoMemory = false
is_message (Expires timer) = false

-- a NOTIFICATION is queued
abbrev pub is_notification : Option Outgoing → Bool
is_notification None = false
is_notification (Some (OwnOpen own)) = false
is_notification (Some OwnKeepalive) = false
is_notification (Some (Notify told)) = true
