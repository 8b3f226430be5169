-- The prefixes that a peer has asked for again by a ROUTE-REFRESH (RFC 2918 sections 3 and 4), and of which no UPDATE has told since.
use Rattle.std.specs.Prelude.{◌&&◌, ◌||◌, Bool, false, not, ℕ, List, [], ◌∷◌, Option, Some, None, is_some, if◌then◌else◌}
use Rattle.std.specs.List.{list_any}
use Rattle.bgp_fsm.specs.StateTests.{is_established}
use Rattle.bgp_msg.specs.MessageSpelling.{front_prefixes, update_parts}
use Rattle.bgp_msg.specs.MessageStream.{Item, WholeMessage, FaultyHeader, messages}
use Rattle.bgp_msg.specs.declared.frame.MessageType.TheVariants.{Open, Update, Notification, Keepalive, RouteRefresh}
use Rattle.bgp_peer.specs.SessionInputs.{Event, Configured, Signalled, Octet, Queued, Handed, Ticked, session}
use Rattle.bgp_peer.specs.Refreshes.{refreshes}
use Rattle.net_prefix.specs.declared.prefix.Prefix.{Prefix}
use Rattle.routing.specs.Updates.{is_among}
use Rattle.runs.specs.Held.{held}

-- the parts of an UPDATE withdraw or announce the prefix
abbrev pub named_by : Option (List ℕ × List ℕ × List ℕ) → Prefix → Bool
named_by None prefix = false
named_by (Some parts) prefix = is_among prefix (front_prefixes parts.2).0 || is_among prefix (front_prefixes parts.0).0

-- a message names the prefix: only an UPDATE does
abbrev pub named : Item → Prefix → Bool
named (FaultyHeader fault) prefix = false
named (WholeMessage Open body) prefix = false
named (WholeMessage Update body) prefix = named_by (update_parts body) prefix
named (WholeMessage Notification body) prefix = false
named (WholeMessage Keepalive body) prefix = false
named (WholeMessage RouteRefresh body) prefix = false

-- these octets have an UPDATE that names the prefix
abbrev pub names_in : List ℕ → Prefix → Bool
names_in octets prefix = list_any (λ item. named item prefix) (messages octets)

-- an UPDATE that names a prefix answers for it, and nothing else answers
abbrev pub answers : Event → Prefix → Bool
answers (Configured terms times) prefix = false
answers (Signalled input) prefix = false
answers (Octet octet) prefix = false
answers (Queued update) prefix = names_in update prefix
answers (Handed octets) prefix = false
answers (Ticked now) prefix = false

-- the slot's peer has asked for the prefix again and wasn't answered yet. A ROUTE-REFRESH for IPv4 unicast asks for all that the
-- peer holds when it comes, once, whatever was asked for before; outside Established nothing is asked for
abbrev pub asked : List Event → Prefix → Bool
asked [] prefix = false
asked (e ∷ h) prefix =
    is_established (session (e ∷ h)).state && (if refreshes h e then is_some (held h prefix) else asked h prefix && not (answers e prefix))
