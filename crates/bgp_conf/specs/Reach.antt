-- The interior cost of a next hop (RFC 4271 section 9.1.2.1; own choice: by `reach` entries).
use Rattle.std.specs.Prelude.{◌≡◌, ◌≤◌, ℕ, List, Option, Some, None, IsSome}
use Rattle.net_prefix.specs.Cover.{Covers}
use Rattle.net_prefix.specs.declared.prefix.Prefix.{Prefix}
use Rattle.bgp_conf.specs.Configuration.{entry_at}

-- there is an entry of the prefix, and it covers the address
abbrev pub IsCovering : List (Prefix × ℕ) → ℕ → Prefix → Type 0
IsCovering reach address prefix = IsSome (entry_at reach prefix) × Covers prefix.bits prefix.len address 32

-- the cost of the longest entry that covers the next hop, or none where no entry does
abbrev pub IsCost : List (Prefix × ℕ) → ℕ → Option ℕ → Type 0
IsCost reach next_hop None = (prefix : Prefix) → ¬ IsCovering reach next_hop prefix
IsCost reach next_hop (Some cost) =
    (longest : Prefix)
    × (entry_at reach longest ≡ Some cost)
    × Covers longest.bits longest.len next_hop 32
    × ((prefix : Prefix) → IsCovering reach next_hop prefix → prefix.len ≤ longest.len)
