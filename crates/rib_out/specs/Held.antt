-- What a peer was last sent of each prefix, and that wasn't withdrawn since: Adj-RIB-Out (RFC 4271 section 3.2).
use Rattle.std.specs.Prelude.{ℕ, Bool, true, false, List, Option, map}
use Rattle.std.specs.List.{list_any}
use Rattle.std.specs.Option.{option_map, option_map_or}
use Rattle.std.specs.Ordering.{is_eq}
use Rattle.std.specs.List.Sorted.{IsStrictlySortedBy}
use Rattle.std.specs.Map.{lookup, keys_of}
use Rattle.net_prefix.specs.PrefixOrder.{prefix_cmp}
use Rattle.net_prefix.specs.declared.prefix.Prefix.{Prefix}

-- whether both are one prefix
abbrev pub is_prefix : Prefix → Prefix → Bool
is_prefix p q = is_eq (prefix_cmp p q)

-- the prefix is one of these
abbrev pub is_among : Prefix → List Prefix → Bool
is_among prefix prefixes = list_any (λ p. is_eq (prefix_cmp p prefix)) prefixes

-- what a peer holds of a prefix: the octets of its attributes, and whether the peer has asked for the route again since
-- (RFC 2918 section 4)
pub record HeldRoute : Type 0 where
  pub octets : List ℕ
  pub asked : Bool

-- the octets of the attributes that the peer holds of a prefix
abbrev pub held_at : List (Prefix × HeldRoute) → Prefix → Option (List ℕ)
held_at table prefix = option_map (λ route. route.octets) (lookup (is_prefix prefix) table)

-- whether the peer holds the prefix, and has asked for it again
abbrev pub asked_at : List (Prefix × HeldRoute) → Prefix → Bool
asked_at table prefix = option_map_or (λ route. route.asked) (lookup (is_prefix prefix) table) false

-- the same routes, each of them asked for again
abbrev pub all_asked : List (Prefix × HeldRoute) → List (Prefix × HeldRoute)
all_asked table = map (λ entry. (entry.0, record { octets = entry.1.octets; asked = true })) table

-- the prefixes with the octets of their attributes
abbrev pub octets_of : List (Prefix × HeldRoute) → List (Prefix × List ℕ)
octets_of table = map (λ entry. (entry.0, entry.1.octets)) table

-- the prefixes rise
abbrev pub IsRising : {X : Type 0} → List (Prefix × X) → Type 0
IsRising table = IsStrictlySortedBy prefix_cmp (keys_of table)
