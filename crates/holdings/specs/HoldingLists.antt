-- Attributes that peers hold of one prefix, in a chain of blocks.
use Rattle.std.specs.Prelude.{ℕ, ◌≡◌, ◌==◌, Bool, not, List, [], Option, Some, None, Box, map, if◌then◌else◌}
use Rattle.std.specs.List.{list_any}
use Rattle.holdings.specs.Holdings.{Holding, IsListedAmong, octets_among}

-- those of a chain, if there is one
abbrev pub list_of : {A : Type 0} → Option (Box (List Holding) A) → List Holding
list_of None = []
list_of (Some list) = list.value

-- whether any peer holds some of them
abbrev pub any_held : List Holding → Bool
any_held list = list_any (λ holding. not (holding.slots == 0)) list

-- the octets of each
abbrev pub octets_listed : List Holding → List (List ℕ)
octets_listed list = map (λ holding. holding.octets) list

-- what was listed is listed
abbrev pub KeepsListed : List Holding → List Holding → Type 0
KeepsListed old new = (octets : List ℕ) → IsListedAmong octets old → IsListedAmong octets new

-- the slot's peer holds these octets, and the others what they held
abbrev pub IsMarked : ℕ → List ℕ → List Holding → List Holding → Type 0
IsMarked slot octets old new = (s : ℕ) → octets_among new s ≡ (if s == slot then Some octets else octets_among old s)
