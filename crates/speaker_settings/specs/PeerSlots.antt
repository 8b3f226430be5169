-- The slots of peers that settings name (own).
use Rattle.std.specs.Prelude.{◌≡◌, ◌<◌, ◌==◌, ℕ, Bool, false, List, All, AllPairs}
use Rattle.std.specs.List.{list_any}
use Rattle.std.specs.declared.net.socket_addr.SocketAddr.{SocketAddr as Address}

-- one of the peers has the slot
abbrev pub has_slot : List (ℕ × Address) → ℕ → Bool
has_slot peers slot = list_any (λ peer. peer.0 == slot) peers

-- the slots are some of the 64, each once
pub record AreSlots (peers : List (ℕ × Address)) : Type 0 where
  pub within : All (λ peer. peer.0 < 64) peers
  pub once : AllPairs (λ peer other. (peer.0 == other.0) ≡ false) peers
