-- The octets of a prefix in an UPDATE message (RFC 4271 section 4.3).
use Rattle.std.specs.Prelude.{◌≡◌, ◌≤◌, ◌<◌, ◌+◌, ◌*◌, ◌/◌, ◌%◌, ◌^◌, ℕ, List, [], ◌∷◌, length, take, drop, slice_index, Result, MatchResult}
use Rattle.net_prefix.specs.declared.fault.PrefixFault.{PrefixFault}
use Rattle.net_prefix.specs.declared.fault.PrefixFault.TheVariants.{LenOver32, HostBits, Text, MaxRange, Cut}
use Rattle.net_prefix.specs.declared.prefix.Prefix.{Prefix}
use Rattle.net_prefix.specs.Cover.{masked_bits}

-- the four octets of an address, the highest first
abbrev pub address_octets : ℕ → List ℕ
address_octets bits = (bits / 2 ^ 24 % 256) ∷ (bits / 2 ^ 16 % 256) ∷ (bits / 2 ^ 8 % 256) ∷ (bits % 256) ∷ []

-- the address that begins with these octets and goes on with zeros
abbrev pub address_from : List ℕ → ℕ
address_from octets =
    slice_index octets 0 * 2 ^ 24 + slice_index octets 1 * 2 ^ 16 + slice_index octets 2 * 2 ^ 8
    + slice_index octets 3

-- the fewest octets that hold so many bits
abbrev pub octets_for : ℕ → ℕ
octets_for len = (len + 7) / 8

-- how a prefix is spelled: its length, then the fewest octets that hold so many bits
abbrev pub spelling_of : ℕ → ℕ → List ℕ
spelling_of bits len = len ∷ take (octets_for len) (address_octets bits)

-- the octets begin with a prefix of this address and length, which takes so many of them
abbrev pub BeginsWith : List ℕ → ℕ → ℕ → ℕ → Type 0
BeginsWith octets bits len used =
    (0 < length octets) × (len ≡ slice_index octets 0) × (len ≤ 32) × (used ≡ 1 + octets_for len)
    × (used ≤ length octets)
    × (bits ≡ masked_bits (address_from (take (octets_for len) (drop 1 octets))) len)

-- why the octets begin with no prefix: the length is looked at first, and where there is none they are cut
abbrev pub BeginsWithNone : List ℕ → PrefixFault → Type 0
BeginsWithNone octets LenOver32 = (0 < length octets) × (32 < slice_index octets 0)
BeginsWithNone octets HostBits = ⊥
BeginsWithNone octets Text = ⊥
BeginsWithNone octets MaxRange = ⊥
BeginsWithNone octets Cut =
    (slice_index octets 0 ≤ 32) × (length octets < 1 + octets_for (slice_index octets 0))

-- the answer for octets: the prefix at their front with the number of octets that it takes, or why there is none
abbrev pub Reads : List ℕ → Result (Prefix × ℕ) PrefixFault → Type 0
Reads octets answer =
    MatchResult answer
    (λ found. BeginsWith octets found.0.bits found.0.len found.1)
    (λ fault. BeginsWithNone octets fault)

-- the answer is the prefix of this address and length, with as many octets as it is spelled in
abbrev pub FindsAgain : ℕ → ℕ → Result (Prefix × ℕ) PrefixFault → Type 0
FindsAgain bits len answer =
    MatchResult answer
    (λ found. (found.0.bits ≡ bits) × (found.0.len ≡ len) × (found.1 ≡ length (spelling_of bits len)))
    (λ fault. ⊥)
