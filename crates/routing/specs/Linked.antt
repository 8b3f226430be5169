-- One slot of a speaker, as others see it.
use Rattle.std.specs.Prelude.{ℕ, List, ◌||◌, [], min, length, if◌then◌else◌}
use Rattle.bgp_peer.specs.Slot.{Slot, taken_input}
use Rattle.net_prefix.specs.declared.prefix.Prefix.{Prefix}
use Rattle.bgp_fsm.specs.SessionTable.{effects_of}
use Rattle.bgp_fsm.specs.declared.input.Input.{Input}
use Rattle.bgp_fsm.specs.declared.session.Effects.{Effects}
use Rattle.bgp_fsm.specs.Transports.{transport_of}
use Rattle.bgp_msg.specs.MessageStream.{needed_of}
use Rattle.net_prefix.specs.declared.transport.Transport.{Transport}
use Rattle.net_prefix.specs.declared.transport.Transport.TheVariants.{None as NoConnection, Opening, Listening, Open as Connected, Closing}
use Rattle.rib_out.specs.Held.{HeldRoute, all_asked}

-- what others see of one slot: its session with the connection's octets, and what its peer was sent
pub record Linked : Type 0 where
  pub peer : Slot
  pub adj_out : List (Prefix × HeldRoute)

-- entering Established begins with nothing sent, and leaving it forgets what was sent; a peer that asks for all routes again
-- asks for each prefix that it holds (RFC 2918 section 4)
abbrev pub adj_out_after : Effects → List (Prefix × HeldRoute) → List (Prefix × HeldRoute)
adj_out_after effects table = if effects.left || effects.entered then [] else (if effects.refreshed then all_asked table else table)

-- the slot after an input, at this moment
abbrev pub moved : ℕ → Linked → Input → Linked
moved now l input = record { peer = taken_input now l.peer input; adj_out = adj_out_after (effects_of input l.peer.session) l.adj_out }

-- how many of these octets belong to the message at the front: none where the connection isn't open
abbrev pub taken_on : Transport → List ℕ → List ℕ → ℕ
taken_on NoConnection rest octets = 0
taken_on Opening rest octets = 0
taken_on Listening rest octets = 0
taken_on Connected rest octets = min (needed_of rest) (length octets)
taken_on Closing rest octets = 0

abbrev pub taken_of : Slot → List ℕ → ℕ
taken_of p octets = taken_on (transport_of p.session) p.rest octets
