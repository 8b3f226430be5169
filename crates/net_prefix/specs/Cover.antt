-- Which prefix covers which (RFC 6811 section 2).
use Rattle.std.specs.Prelude.{◌≡◌, ◌≤◌, ◌-◌, ◌/◌, ◌%◌, ◌*◌, ◌^◌, ℕ}

-- the number of addresses in a prefix of this length
abbrev pub block_size : ℕ → ℕ
block_size len = 2 ^ (32 - len)

-- no bit of the address stands behind the length
abbrev pub HasNoHostBits : ℕ → ℕ → Type 0
HasNoHostBits bits len = bits % block_size len ≡ 0

-- the address without the bits behind the length
abbrev pub masked_bits : ℕ → ℕ → ℕ
masked_bits bits len = bits / block_size len * block_size len

-- the first prefix is no longer, and both addresses divided by 2^(32 - its length) give one quotient
abbrev pub Covers : ℕ → ℕ → ℕ → ℕ → Type 0
Covers bits len other_bits other_len = (len ≤ other_len) × (bits / block_size len ≡ other_bits / block_size len)
