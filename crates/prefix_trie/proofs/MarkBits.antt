-- Marks as bits of a number.
use Rattle.std.proofs.Common.{◌≡◌, ℕ, zero, suc, ◌*◌, ◌^◌, ◌<◌, ◌==◌, not, bit_and, arith}
use Rattle.std.proofs.lemmas.Bool.Decides.{nat_tests}
use Rattle.std.proofs.lemmas.Nat.{pow_pos}
use Rattle.std.proofs.lemmas.Nat.Bits.{and_pow, bit_at-lt}
use Rattle.std.specs.Int.{bit_at}

bit_case : (bit power : ℕ) → bit < 2 → 0 < power → not (bit * power == 0) ≡ (bit == 1)
bit_case zero power small some = grind (arith, nat_tests)
bit_case (suc zero) power small some = grind (arith, nat_tests)
bit_case (suc (suc bit)) power small some = absurd (omega arith)

-- marks meet the one of a slot where they have it
pub meets_bit : (marks slot : ℕ) → not (bit_and marks (2 ^ slot) == 0) ≡ (bit_at marks slot == 1)
meets_bit marks slot = rw (and_pow marks slot) (bit_case (bit_at marks slot) (2 ^ slot) (bit_at-lt marks slot) (pow_pos slot))
