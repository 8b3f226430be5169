-- Peers that wait for payloads (own).
use Rattle.std.specs.Prelude.{◌==◌, ◌||◌, ℕ, Bool, true, false, List, [], Option, None, Some, filter, nat_le, not}
use Rattle.bgp_conf.specs.declared.command.Command.{Command}
use Rattle.bgp_conf.specs.declared.command.Command.TheVariants.{AddPeer, RemovePeer, Enable, Disable, SetPolicy, DropPolicy, UseIn, UseOut, Network, NoNetwork, Reach, NoReach, Filter, NoFilter, Assert, NoAssert}
use Rattle.rtr_client.specs.declared.state.ClientState.{ClientState}
use Rattle.rtr_client.specs.declared.state.ClientState.TheVariants.{Off, Opening, Asked, Wait, Loading, Synced}

-- the slots in the order in which they are let through, the moment until which they wait at most, and whether they may go
pub record Waiting : Type 0 where
  pub slots : List ℕ
  pub until : ℕ
  pub is_open : Bool

-- the session with the cache has all payloads
abbrev pub is_synced : Option ClientState → Bool
is_synced None = false
is_synced (Some Off) = false
is_synced (Some Opening) = false
is_synced (Some Asked) = false
is_synced (Some Wait) = false
is_synced (Some Loading) = false
is_synced (Some Synced) = true

-- they may go from the first turn on behind which the cache's session is synced, or whose moment is theirs
abbrev pub opens : ℕ → Option ClientState → Waiting → Bool
opens now session waiting = waiting.is_open || (is_synced session || nat_le waiting.until now)

-- the other slots
abbrev pub others : ℕ → List ℕ → List ℕ
others slot slots = filter (λ other. not (other == slot)) slots

-- the slot of whose peer a command decides whether it has a session
abbrev pub decided_by : Command → Option ℕ
decided_by (AddPeer slot peer) = None
decided_by (RemovePeer slot) = Some slot
decided_by (Enable slot) = Some slot
decided_by (Disable slot) = Some slot
decided_by (SetPolicy name rules) = None
decided_by (DropPolicy name) = None
decided_by (UseIn slot name) = None
decided_by (UseOut slot name) = None
decided_by (Network prefix) = None
decided_by (NoNetwork prefix) = None
decided_by (Reach prefix cost) = None
decided_by (NoReach prefix) = None
decided_by (Filter prefix asn) = None
decided_by (NoFilter prefix asn) = None
decided_by (Assert prefix max_len asn) = None
decided_by (NoAssert prefix max_len asn) = None

-- that one doesn't wait any more
abbrev pub without : Option ℕ → Waiting → Waiting
without None waiting = waiting
without (Some slot) waiting = record waiting { slots = others slot waiting.slots }

-- nor does any
abbrev pub none_waits : Waiting → Waiting
none_waits waiting = record waiting { slots = [] }
