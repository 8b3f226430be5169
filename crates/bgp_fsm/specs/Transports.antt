-- What stands between a session and its connection: a function of the session.
use Rattle.std.specs.Prelude.{Bool, true, false, if◌then◌else◌}
use Rattle.net_prefix.specs.declared.transport.Transport.{Transport}
use Rattle.net_prefix.specs.declared.transport.Transport.TheVariants.{None as NoConnection, Opening, Listening, Open, Closing}
use Rattle.bgp_attr.specs.declared.peer.Mode.{Mode}
use Rattle.bgp_attr.specs.declared.peer.Mode.TheVariants.{Passive, Active as Opener}
use Rattle.bgp_fsm.specs.declared.state.State.{State}
use Rattle.bgp_fsm.specs.declared.state.State.TheVariants.{Idle, Connect, Active, OpenSent, OpenConfirm, Established}
use Rattle.bgp_fsm.specs.declared.session.Session.{Session}

-- a connection that is still to be closed
abbrev pub is_closing : Transport → Bool
is_closing NoConnection = false
is_closing Opening = false
is_closing Listening = false
is_closing Open = false
is_closing Closing = true

-- in Active a passive peer's connection is awaited
abbrev pub awaited_of : Mode → Transport
awaited_of Opener = NoConnection
awaited_of Passive = Listening

-- the transport in each state
abbrev pub transport_at : State → Session → Transport
transport_at Idle s = if s.closing then Closing else NoConnection
transport_at Connect s = Opening
transport_at Active s = awaited_of s.mode
transport_at OpenSent s = Open
transport_at OpenConfirm s = Open
transport_at Established s = Open

-- the transport of a session
abbrev pub transport_of : Session → Transport
transport_of s = transport_at s.state s
