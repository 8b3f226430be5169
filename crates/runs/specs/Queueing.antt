-- What is queued to a peer so that it holds its export (RFC 4271 sections 4.3 and 9.2).
use Rattle.std.specs.Prelude.{◌≡◌, ◌≤◌, ◌+◌, ◌^◌, bit_or, ℕ, List, [], ◌∷◌, length, Option, Some, None, false}
use Rattle.bgp_fsm.specs.declared.state.State.TheVariants.{Established}
use Rattle.net_prefix.specs.declared.prefix.Prefix.{Prefix}
use Rattle.rib_out.specs.Held.{asked_at, held_at}
use Rattle.routing.specs.Linked.{Linked}
use Rattle.bgp_peer.specs.PeerLimits.{ring_octets, room_for_update}
use Rattle.routing.specs.Places.{rank_of}

-- what is told of the one prefix comes no later than what is told of the other: withdrawals before announcements, and
-- each kind in the order of the prefixes
abbrev pub ComesFirst : Prefix → Option (List ℕ) → Prefix → Option (List ℕ) → Type 0
ComesFirst p None q None = rank_of p ≤ rank_of q
ComesFirst p None q (Some others) = Unit {0}
ComesFirst p (Some octets) q None = ⊥
ComesFirst p (Some octets) q (Some others) = rank_of p ≤ rank_of q

-- what is done for a slot that is owed something: an UPDATE is queued, or memory is refused to it
pub data Service : Type 0 where
  Tells : (update : List ℕ) → Service
  Starves : Service

-- what a call does at its end: each with its slot, the newest first
abbrev pub Queue : Type 0
Queue = List (ℕ × Service)

-- a set of slots, a bit each, with one more where memory was refused to it
abbrev pub with_starved : ℕ → Service → ℕ → ℕ
with_starved slot (Tells update) slots = slots
with_starved slot Starves slots = bit_or (2 ^ slot) slots

-- the slots to which memory was refused at the end of a call, a bit each
abbrev pub starved_in : Queue → ℕ
starved_in [] = 0
starved_in (now ∷ queue) = with_starved now.0 now.1 (starved_in queue)

-- where 8,192 octets are free, an Established peer holds its export, and has asked for nothing again that it wasn't told since
abbrev pub IsServed : (Prefix → Option (List ℕ)) → Linked → Type 0
IsServed export l =
    l.peer.session.state ≡ Established → length l.peer.ring + room_for_update ≤ ring_octets
    → (prefix : Prefix) → (held_at l.adj_out prefix ≡ export prefix) × (asked_at l.adj_out prefix ≡ false)
