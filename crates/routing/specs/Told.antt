-- What is queued to a peer so that it holds its export (RFC 4271 sections 4.3 and 9.2).
use Rattle.std.specs.Prelude.{◌≡◌, ◌≤◌, ◌<◌, ◌+◌, ◌^◌, ℕ, List, [], All, false, length, Option, Some, None, if◌then◌else◌}
use Rattle.bgp_msg.specs.MessageSpelling.{update_of, wire_form}
use Rattle.bgp_peer.specs.Slot.{queued}
use Rattle.net_prefix.specs.declared.prefix.Prefix.{Prefix}
use Rattle.rib_out.specs.Held.{asked_at, held_at, is_among}
use Rattle.routing.specs.Linked.{Linked}
use Rattle.bgp_peer.specs.PeerLimits.{ring_octets, room_for_update}
use Rattle.routing.specs.Places.{rank_of}

-- the UPDATE that says just this of these prefixes: that they are withdrawn, or that they are announced with these attributes
abbrev pub update_saying : List Prefix → Option (List ℕ) → List ℕ
update_saying named None = update_of (wire_form named) [] []
update_saying named (Some attributes) = update_of [] attributes (wire_form named)

-- by one UPDATE the peer is told this of these prefixes, and of no other one; it hasn't asked for them again since
pub record IsTold (named : List Prefix) (export : Option (List ℕ)) (old new : Linked) : Type 0 where
  pub places : All (λ p. rank_of p < 2 ^ 38) named
  pub peer : new.peer ≡ queued old.peer (update_saying named export)
  pub held : (q : Prefix) → held_at new.adj_out q ≡ (if is_among q named then export else held_at old.adj_out q)
  pub asked : (q : Prefix) → asked_at new.adj_out q ≡ (if is_among q named then false else asked_at old.adj_out q)

-- 8,192 octets of the ring are free, as many as an UPDATE asks for
abbrev pub HasRoom : Linked → Type 0
HasRoom l = length l.peer.ring + room_for_update ≤ ring_octets
