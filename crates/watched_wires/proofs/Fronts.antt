-- The first of a list.
use Rattle.std.proofs.Common.{◌≡◌, ◌≤◌, ℕ, List, arith, length, take, sym}
use Rattle.std.proofs.lemmas.List.{take_all, length-take-le}

-- all are the first of as many and more
pub take_all_of : (n : ℕ) (octets : List ℕ) → length octets ≤ n → octets ≡ take n octets
take_all_of n octets few = sym (take_all n octets few)

-- the first of so many that are there are so many
pub length_of_take : (n : ℕ) (octets : List ℕ) → n ≤ length octets → length (take n octets) ≡ n
length_of_take n octets many = length-take-le n octets many

pub few_in_take : (n : ℕ) (octets : List ℕ) → n ≤ length octets → length (take n octets) ≤ n
few_in_take n octets many = let are = length_of_take n octets many in omega (arith, are)
