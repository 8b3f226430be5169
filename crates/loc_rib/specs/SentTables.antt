-- What the peers hold: Adj-RIB-Out of each slot (RFC 4271 section 3.2).
use Rattle.std.specs.Prelude.{ℕ, Bool, ◌≡◌, List, [], true, false}
use Rattle.std.specs.Option.{is_some}
use Rattle.net_prefix.specs.declared.prefix.Prefix.{Prefix}
use Rattle.rib_out.specs.Held.{HeldRoute, asked_at, held_at}
use Rattle.holdings.specs.Holdings.{HoldingsState, held_by}
use Rattle.rib_out.specs.Slots.{has_slot}
use Rattle.prefix_table.specs.Picked.{picked}

-- what the peers hold of all prefixes
abbrev pub SentTable : Type 0
SentTable = List (Prefix × HoldingsState)

-- what the peer of this slot holds
unfoldable pub sent_to : SentTable → ℕ → List (Prefix × HeldRoute)
sent_to table slot = picked (λ held. held_by held slot) table

-- what is known of all that a peer holds: whether it may hold anything, whether it may have asked for anything again, and
-- whether it has asked again for each prefix that it holds
pub record IsMarked (held : List (Prefix × HeldRoute)) (holds asks all_asked : Bool) : Type 0 where
  pub nothing : holds ≡ false → held ≡ []
  pub unasked : asks ≡ false → (p : Prefix) → asked_at held p ≡ false
  pub all : all_asked ≡ true → (p : Prefix) → asked_at held p ≡ is_some (held_at held p)

-- what is known of each slot's peer, by sets of slots
abbrev pub AreMarked : SentTable → ℕ → ℕ → ℕ → Type 0
AreMarked sent holders askers all_asked = (slot : ℕ) → IsMarked (sent_to sent slot) (has_slot holders slot) (has_slot askers slot) (has_slot all_asked slot)
