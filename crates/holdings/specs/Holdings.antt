-- What the peers hold of one prefix: Adj-RIB-Out (RFC 4271 section 3.2).
use Rattle.std.specs.Prelude.{ℕ, ◌≡◌, ◌==◌, ◌⊎◌, Bool, not, List, [], ◌∷◌, Option, Some, None, if◌then◌else◌}
use Rattle.std.specs.List.{list_any}
use Rattle.std.specs.Option.{option_map}
use Rattle.rib_out.specs.Held.{HeldRoute}
use Rattle.rib_out.specs.Slots.{has_slot}

-- some attributes as they were sent, and the slots whose peers hold them
pub record Holding : Type 0 where
  pub octets : List ℕ
  pub slots : ℕ

-- what the peers hold of a prefix, and the slots whose peers have asked for it again since (RFC 2918 section 4)
pub record HoldingsState : Type 0 where
  pub holdings : List Holding
  pub asked : ℕ

abbrev pub octets_among : List Holding → ℕ → Option (List ℕ)
octets_among [] slot = None
octets_among (holding ∷ holdings) slot = if has_slot holding.slots slot then Some holding.octets else octets_among holdings slot

-- the octets that a slot's peer holds
abbrev pub octets_by : HoldingsState → ℕ → Option (List ℕ)
octets_by held slot = octets_among held.holdings slot

-- what a slot's peer holds
abbrev pub held_by : HoldingsState → ℕ → Option HeldRoute
held_by held slot = option_map (λ octets. record { octets = octets; asked = has_slot held.asked slot }) (octets_by held slot)

-- whether any peer holds something
abbrev pub holds_any : HoldingsState → Bool
holds_any held = list_any (λ holding. not (holding.slots == 0)) held.holdings

-- there is a holding of these octets, so that a slot that holds them from now on takes no memory
abbrev pub IsListedAmong : List ℕ → List Holding → Type 0
IsListedAmong octets [] = ⊥
IsListedAmong octets (h ∷ hs) = (h.octets ≡ octets) ⊎ IsListedAmong octets hs

abbrev pub IsReady : List ℕ → HoldingsState → Type 0
IsReady octets held = IsListedAmong octets held.holdings
