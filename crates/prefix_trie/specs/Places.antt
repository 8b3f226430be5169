-- Where one prefix stands, seen from another.
use Rattle.std.specs.Prelude.{ℕ, ◌≡◌, ◌+◌, ◌<◌, ◌≤◌}
use Rattle.net_prefix.specs.Cover.{block_size, masked_bits}
use Rattle.net_prefix.specs.declared.prefix.Prefix.{Prefix}
use Rattle.prefix_trie.specs.declared.places.Place.{Place}
use Rattle.prefix_trie.specs.declared.places.Place.TheVariants.{Same, Low, High, OverLow, OverHigh, Before, Behind}

-- where the upper half of the prefix begins
abbrev pub middle : Prefix → ℕ
middle p = p.bits + block_size (p.len + 1)

-- where the prefix ends
abbrev pub end_of : Prefix → ℕ
end_of p = p.bits + block_size p.len

-- the prefix is at least this long, and lies in the block of this length that begins there
pub record IsInside (base len : ℕ) (p : Prefix) : Type 0 where
  pub long : len ≤ p.len
  pub from : base ≤ p.bits
  pub to : end_of p ≤ base + block_size len

-- the lower half of the first covers the second
abbrev pub IsLow : Prefix → Prefix → Type 0
IsLow top p = IsInside top.bits (top.len + 1) p

-- the upper half of the first covers the second
abbrev pub IsHigh : Prefix → Prefix → Type 0
IsHigh top p = IsInside (middle top) (top.len + 1) p

-- what the place says of the prefix and the key
abbrev pub Stands : Prefix → Prefix → Place → Type 0
Stands top key Same = key ≡ top
Stands top key Low = IsLow top key
Stands top key High = IsHigh top key
Stands top key OverLow = IsLow key top
Stands top key OverHigh = IsHigh key top
Stands top key Before = end_of key ≤ top.bits
Stands top key Behind = end_of top ≤ key.bits

-- what it says of a key that is longer
abbrev pub StandsLonger : Prefix → Prefix → Place → Type 0
StandsLonger top key Same = ⊥
StandsLonger top key Low = IsLow top key
StandsLonger top key High = IsHigh top key
StandsLonger top key OverLow = ⊥
StandsLonger top key OverHigh = ⊥
StandsLonger top key Before = end_of key ≤ top.bits
StandsLonger top key Behind = end_of top ≤ key.bits

-- the addresses are in one block of this length, the first in its lower half, the second in its upper half
pub record IsSplit (low high len : ℕ) : Type 0 where
  pub short : len < 32
  pub lower : low < masked_bits low len + block_size (len + 1)
  pub upper : masked_bits low len + block_size (len + 1) ≤ high
  pub end : high < masked_bits low len + block_size len
