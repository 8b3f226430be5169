-- What was queued for a slot on its present connection, and what of it was handed out (RFC 4271 section 4).
use Rattle.std.specs.Prelude.{ℕ, ◌-◌, List, [], ◌∷◌, ◌++◌, length, drop}
use Rattle.bgp_fsm.specs.declared.input.Input.{Input}
use Rattle.bgp_fsm.specs.declared.session.Session.{Session}
use Rattle.bgp_fsm.specs.SessionTable.{effects_of}
use Rattle.bgp_peer.specs.Slot.{kept, said}
use Rattle.bgp_peer.specs.SessionInputs.{Event, Configured, Signalled, Octet, Queued, Handed, Ticked, session, after, inputs_of, moment_of}
use Rattle.bgp_peer.specs.PeerLimits.{ring_octets}

-- what was handed out on the present connection, after a history with the newest first
abbrev pub given : List Event → List ℕ
given [] = []
given (Configured terms times ∷ h) = []
given (Signalled input ∷ h) = kept input (given h)
given (Octet octet ∷ h) = given h
given (Queued update ∷ h) = given h
given (Handed octets ∷ h) = given h ++ octets
given (Ticked now ∷ h) = given h

-- what was queued, with what the rows of these inputs say, which came at this moment; so much of it was handed out
abbrev pub with_said : ℕ → List Input → Session → List ℕ → List ℕ → List ℕ
with_said now [] s given sent = sent
with_said now (input ∷ inputs) s given sent =
    with_said now inputs s given sent ++ said (effects_of input (after now inputs s)).message (drop (length given) (with_said now inputs s given sent))

-- what an event itself leaves of what was queued, or adds to it
abbrev pub queued_by : Event → List ℕ → List ℕ
queued_by (Configured terms times) sent = []
queued_by (Signalled input) sent = kept input sent
queued_by (Octet octet) sent = sent
queued_by (Queued update) sent = sent ++ update
queued_by (Handed octets) sent = sent
queued_by (Ticked now) sent = sent

-- what was queued on the present connection: the UPDATEs, and what the rows of the session table say
abbrev pub sent : List Event → List ℕ
sent [] = []
sent (e ∷ h) = with_said (moment_of (e ∷ h)) (inputs_of h e) (session h) (given (e ∷ h)) (queued_by e (sent h))

-- what is queued and not yet handed out
abbrev pub ring_of : List Event → List ℕ
ring_of h = drop (length (given h)) (sent h)

-- how many octets may still be queued
abbrev pub free : List Event → ℕ
free h = ring_octets - length (ring_of h)
