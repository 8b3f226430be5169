-- What a peer holds of what it was sent, read back from the octets (RFC 4271 sections 3.2 and 4.3).
use Rattle.std.specs.Prelude.{ℕ, List, [], ◌∷◌, Option, Some, None, if◌then◌else◌}
use Rattle.bgp_fsm.specs.declared.state.State.{State}
use Rattle.bgp_fsm.specs.StateTests.{is_established}
use Rattle.bgp_msg.specs.MessageSpelling.{front_prefixes, update_parts}
use Rattle.bgp_msg.specs.MessageStream.{Item, WholeMessage, FaultyHeader, messages}
use Rattle.bgp_msg.specs.declared.frame.MessageType.TheVariants.{Open, Update, Notification, Keepalive, RouteRefresh}
use Rattle.bgp_peer.specs.SentMessages.{sent}
use Rattle.bgp_peer.specs.SessionInputs.{Event, session}
use Rattle.net_prefix.specs.declared.prefix.Prefix.{Prefix}
use Rattle.routing.specs.Updates.{is_among}

-- what the parts of an UPDATE say of a prefix, by the octets of its attributes, or what was said before: withdrawals
-- before announcements
abbrev pub told_by : Option (List ℕ × List ℕ × List ℕ) → Prefix → Option (List ℕ) → Option (List ℕ)
told_by None prefix before = before
told_by (Some parts) prefix before =
    if is_among prefix (front_prefixes parts.2).0 then Some parts.1
    else (if is_among prefix (front_prefixes parts.0).0 then None else before)

-- what a message says of a prefix, or what was said before
abbrev pub told : Item → Prefix → Option (List ℕ) → Option (List ℕ)
told (FaultyHeader fault) prefix before = before
told (WholeMessage Open body) prefix before = before
told (WholeMessage Update body) prefix before = told_by (update_parts body) prefix before
told (WholeMessage Notification body) prefix before = before
told (WholeMessage Keepalive body) prefix before = before
told (WholeMessage RouteRefresh body) prefix before = before

-- messages folded, the oldest first
abbrev pub told_from : Option (List ℕ) → List Item → Prefix → Option (List ℕ)
told_from before [] prefix = before
told_from before (item ∷ items) prefix = told_from (told item prefix before) items prefix

-- what these octets tell of a prefix
abbrev pub told_in : List ℕ → Prefix → Option (List ℕ)
told_in octets prefix = told_from None (messages octets) prefix

-- only an Established peer holds anything
abbrev pub held_in : State → List ℕ → Prefix → Option (List ℕ)
held_in state octets prefix = if is_established state then told_in octets prefix else None

-- the octets of the attributes of a prefix that a slot's peer holds: what it was sent on the present connection, folded
abbrev pub held : List Event → Prefix → Option (List ℕ)
held h prefix = held_in (session h).state (sent h) prefix
