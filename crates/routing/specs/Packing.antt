-- Which prefixes one UPDATE names (RFC 4271 section 4.3; the order is an own choice).
use Rattle.std.specs.Prelude.{◌≡◌, ◌≢◌, ◌⊎◌, ◌≤◌, ◌<◌, ◌+◌, ◌-◌, ℕ, List, [], ◌∷◌, true, false, length, Option, Some, None, MatchOption}
use Rattle.std.specs.List.Sorted.{IsStrictlySortedBy}
use Rattle.bgp_msg.specs.MessageSpelling.{wire_form}
use Rattle.net_prefix.specs.PrefixOrder.{prefix_cmp}
use Rattle.net_prefix.specs.declared.prefix.Prefix.{Prefix}
use Rattle.rib_out.specs.Held.{asked_at, held_at, is_among}
use Rattle.routing.specs.Linked.{Linked}
use Rattle.routing.specs.Places.{rank_of}

-- the octets that an UPDATE has for prefixes and attributes: 4,096 without those of the header and of two lengths
abbrev pub most_named : ℕ
most_named = 4073

-- the octets that an UPDATE has for prefixes that are withdrawn, or that are announced with these attributes
abbrev pub room_beside : Option (List ℕ) → ℕ
room_beside None = most_named
room_beside (Some attributes) = most_named - length attributes

-- the slot's peer doesn't hold of the prefix just what is exported to it, or has asked for it again
abbrev pub IsNewTo : Linked → Prefix → Option (List ℕ) → Type 0
IsNewTo l prefix export = (held_at l.adj_out prefix ≢ export) ⊎ (asked_at l.adj_out prefix ≡ true)

-- just this is exported of the prefix, and it is new to the slot's peer
abbrev pub IsDue : (Prefix → Option (List ℕ)) → Option (List ℕ) → Linked → Prefix → Type 0
IsDue exports export l prefix = (exports prefix ≡ export) × IsNewTo l prefix export

-- so it is of a prefix from this one on
abbrev pub IsFrom : Prefix → (Prefix → Type 0) → Prefix → Type 0
IsFrom least There prefix = (rank_of least ≤ rank_of prefix) × There prefix

-- the least prefix behind this one of which this holds, or none of which it does
abbrev pub IsBehind : (Prefix → Type 0) → Prefix → Option Prefix → Type 0
IsBehind There p next =
    MatchOption next ((q : Prefix) → There q → rank_of p < rank_of q → ⊥) (λ n. (q : Prefix) → There q → rank_of p < rank_of q → rank_of n ≤ rank_of q)

-- of the prefixes of which this holds, in rising order, the longest beginning that so many octets hold; there is one at least
pub record IsPack (There : Prefix → Type 0) (most : ℕ) (named : List Prefix) : Type 0 where
  pub some : 0 < length named
  pub each : (q : Prefix) → is_among q named ≡ true → There q
  pub rising : IsStrictlySortedBy prefix_cmp named
  pub fits : length (wire_form named) ≤ most
  -- what isn't among them stands behind them all
  pub behind : (q : Prefix) → There q → is_among q named ≡ false → (p : Prefix) → is_among p named ≡ true → rank_of p < rank_of q
  -- and with the least of it they would be too long
  pub full : (q : Prefix) → There q → is_among q named ≡ false → ((p : Prefix) → There p → is_among p named ≡ false → rank_of q ≤ rank_of p)
      → most < length (wire_form named) + length (wire_form (q ∷ []))
