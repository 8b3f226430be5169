-- The latest route of a peer to each prefix: Adj-RIB-In (RFC 4271 section 3.2).
use Rattle.std.specs.Prelude.{List, [], ◌∷◌, Option, None, if◌then◌else◌}
use Rattle.std.specs.Option.{option_and_then}
use Rattle.bgp_attr.specs.PathAttributes.{PathAttributes}
use Rattle.bgp_fsm.specs.StateTests.{is_established}
use Rattle.bgp_msg.specs.UpdateMeaning.{UpdateBody}
use Rattle.bgp_peer.specs.SessionInputs.{Event, Configured, Signalled, Octet, Queued, Handed, Ticked, terms_of, item_at, session}
use Rattle.net_prefix.specs.declared.prefix.Prefix.{Prefix}
use Rattle.routing.specs.Heard.{update_heard}
use Rattle.routing.specs.Updates.{word_if}

-- the UPDATE that an event brings, coming next
abbrev pub brought : List Event → Event → Option UpdateBody
brought h (Configured terms times) = None
brought h (Signalled input) = None
brought h (Octet octet) = option_and_then (update_heard (session h).state (terms_of h)) (item_at h octet)
brought h (Queued update) = None
brought h (Handed octets) = None
brought h (Ticked now) = None

-- the route that a slot's peer announced last in its present Established run and that no later UPDATE of it names
abbrev pub route : List Event → Prefix → Option PathAttributes
route [] prefix = None
route (e ∷ h) prefix = if is_established (session (e ∷ h)).state then word_if (brought h e) prefix (route h prefix) else None
