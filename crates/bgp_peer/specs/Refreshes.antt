-- When the peer of a slot asks for all routes again (RFC 2918 section 4).
use Rattle.std.specs.Prelude.{◌&&◌, Bool, false, List, ◌∷◌, Option, Some, None}
use Rattle.bgp_msg.specs.declared.frame.MessageType.TheVariants.{Open, Update, Notification, Keepalive, RouteRefresh}
use Rattle.bgp_msg.specs.MessageStream.{Item, WholeMessage, FaultyHeader}
use Rattle.bgp_msg.specs.RouteRefresh.{is_ipv4_unicast}
use Rattle.bgp_fsm.specs.declared.state.State.{State}
use Rattle.bgp_fsm.specs.StateTests.{is_established}
use Rattle.bgp_peer.specs.SessionInputs.{Event, Configured, Signalled, Octet, Queued, Handed, Ticked, item_at, session}

-- an item of the stream asks a session in this state for all routes again: a ROUTE-REFRESH for IPv4 unicast, in Established
abbrev pub asks_again : State → Item → Bool
asks_again state (FaultyHeader fault) = false
asks_again state (WholeMessage Open body) = false
asks_again state (WholeMessage Update body) = false
asks_again state (WholeMessage Notification body) = false
asks_again state (WholeMessage Keepalive body) = false
asks_again state (WholeMessage RouteRefresh body) = is_established state && is_ipv4_unicast body

-- the same, if there is one
abbrev pub asks_again_if : State → Option Item → Bool
asks_again_if state None = false
asks_again_if state (Some item) = asks_again state item

-- an event asks for all routes again, coming next after a history, which has the newest first: an octet that completes a
-- ROUTE-REFRESH for IPv4 unicast while the session is Established
abbrev pub refreshes : List Event → Event → Bool
refreshes h (Configured terms times) = false
refreshes h (Signalled input) = false
refreshes h (Octet octet) = asks_again_if (session h).state (item_at h octet)
refreshes h (Queued update) = false
refreshes h (Handed octets) = false
refreshes h (Ticked now) = false
