-- The peers with what they hold.
use Rattle.std.specs.Prelude.{ℕ, List, [], ◌∷◌, Option}
use Rattle.std.specs.BTreeMap.{is_at}
use Rattle.std.specs.Map.{lookup}
use Rattle.std.specs.Ordering.{nat_cmp}
use Rattle.bgp_peer.specs.Slot.{Slot}
use Rattle.loc_rib.specs.SentTables.{SentTable, sent_to}
use Rattle.routing.specs.Linked.{Linked}

-- the peer of this slot
abbrev pub peer_in : List (ℕ × Slot) → ℕ → Option Slot
peer_in peers slot = lookup (is_at (nat_cmp slot)) peers

-- a slot's peer, with what it holds
abbrev pub linked_as : SentTable → ℕ → Slot → Linked
linked_as sent slot peer = record { peer = peer; adj_out = sent_to sent slot }

-- the slots: their peers, with what these hold
abbrev pub linked : List (ℕ × Slot) → SentTable → List (ℕ × Linked)
linked [] sent = []
linked (entry ∷ peers) sent = (entry.0, linked_as sent entry.0 entry.1) ∷ linked peers sent
