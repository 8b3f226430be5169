-- Where two addresses part.
use Rattle.std.proofs.Common.{◌≡◌, ◌≢◌, ℕ, zero, suc, ◌+◌, ◌-◌, ◌*◌, ◌/◌, ◌%◌, ◌^◌, ◌<◌, ◌≤◌, bit_xor, inl, inr, sym, ap, ◌∙◌, arith}
use Rattle.std.proofs.Math.Nat.{pow-suc, pow-le-pow_right, div-mul-le_self}
use Rattle.std.proofs.lemmas.Bool.{cases_lt}
use Rattle.std.proofs.lemmas.Nat.{pow_pos, div-add-mod', mod_below, xor_shr, le-div}
use Rattle.std.proofs.lemmas.Nat.Bits.{bit_at_xor, bit_at-zero, bit_at-lt, same_from_bits}
use Rattle.std.specs.Int.{bit_at}
use Rattle.std.specs.Int.Bits.{xor_self}
use Rattle.net_prefix.specs.Cover.{block_size, masked_bits}
use Rattle.net_prefix.specs.declared.prefix.Prefix.{Prefix}
use Rattle.prefix_trie.specs.Places.{IsSplit, IsLow, IsHigh, end_of}
use Rattle.net_prefix.proofs.Blocks.{room, block_pos, divided}
use Rattle.prefix_trie.proofs.Blocks.{bits_whole, low_from, high_from}

-- numbers that differ in no bit are one
no_difference : (a b : ℕ) → bit_xor a b ≡ 0 → a ≡ b
no_difference a b h =
    same_from_bits a b (λ i.
    let e : (bit_at a i + bit_at b i) % 2 ≡ 0 = sym (bit_at_xor a b i) ∙ ap (λ n. bit_at n i) h ∙ bit_at-zero i in
    let la = bit_at-lt a i in
    let lb = bit_at-lt b i in
    omega arith)

-- numbers that agree but for the lowest k + 1 bits, and not but for the lowest k
parted : (a b k : ℕ) → a < b → a / 2 ^ suc k ≡ b / 2 ^ suc k → a / 2 ^ k ≢ b / 2 ^ k
    → (a < a / 2 ^ suc k * 2 ^ suc k + 2 ^ k) × (a / 2 ^ suc k * 2 ^ suc k + 2 ^ k ≤ b) × (b < a / 2 ^ suc k * 2 ^ suc k + 2 ^ suc k)
parted a b k less same apart =
    let double : 2 ^ suc k ≡ 2 ^ k + 2 ^ k = pow-suc 2 k ∙ grind arith in
    let q = a / 2 ^ suc k in
    let wa = div-add-mod' a (2 ^ suc k) in
    let wb : q * 2 ^ suc k + b % 2 ^ suc k ≡ b = rw same (div-add-mod' b (2 ^ suc k)) in
    let ra = mod_below a (2 ^ suc k) (pow_pos (suc k)) in
    let rb = mod_below b (2 ^ suc k) (pow_pos (suc k)) in
    let even : q * 2 ^ suc k ≡ (q + q) * 2 ^ k = rw double (grind arith) in
    let odd : (q + q + 1) * 2 ^ k ≡ q * 2 ^ suc k + 2 ^ k = grind arith in
    let upper : a / 2 ^ suc k * 2 ^ suc k + 2 ^ k ≤ b = elim (cases_lt b (q * 2 ^ suc k + 2 ^ k)) [
      | inl h ↦ absurd (apart (divided (q + q) (2 ^ k) a (omega arith) (omega arith) ∙ sym (divided (q + q) (2 ^ k) b (omega arith) (omega arith))))
      | inr h ↦ h
    ] in
    let lower : a < a / 2 ^ suc k * 2 ^ suc k + 2 ^ k = elim (cases_lt a (q * 2 ^ suc k + 2 ^ k)) [
      | inl h ↦ h
      | inr h ↦ absurd (apart (divided (q + q + 1) (2 ^ k) a (omega arith) (omega arith) ∙ sym (divided (q + q + 1) (2 ^ k) b (omega arith) (omega arith))))
    ] in
    (lower, upper, omega arith)

-- the place of the first bit in which two numbers differ
pub split_at : (a b len m : ℕ) → a < b → len + m ≡ 32 → bit_xor a b < 2 ^ m → 2 ^ m ≤ 2 * bit_xor a b + 1 → IsSplit a b len
split_at a b len zero less total below above =
    let e : bit_xor a b ≡ 0 = omega (arith, below) in
    absurd (omega (arith, no_difference a b e))
split_at a b len (suc k) less total below above =
    let whole : 32 - len ≡ suc k = omega arith in
    let half : 32 - (len + 1) ≡ k = omega arith in
    let double : 2 ^ suc k ≡ 2 ^ k + 2 ^ k = pow-suc 2 k ∙ grind arith in
    let none : bit_xor a b / 2 ^ suc k ≡ 0 = divided 0 (2 ^ suc k) (bit_xor a b) (omega arith) (omega arith) in
    let some : 1 ≤ bit_xor a b / 2 ^ k = le-div 1 (bit_xor a b) (2 ^ k) (pow_pos k) (omega arith) in
    let same = no_difference (a / 2 ^ suc k) (b / 2 ^ suc k) (sym (xor_shr a b (suc k)) ∙ none) in
    let apart : a / 2 ^ k ≢ b / 2 ^ k = λ e.
    let zero_there : bit_xor a b / 2 ^ k ≡ 0 = xor_shr a b k ∙ rw e (xor_self (b / 2 ^ k)) in
    absurd (omega arith) in
    let at = parted a b k less same apart in
    record {
      short = omega arith;
      lower = rw (whole, half) at.0;
      upper = rw (whole, half) at.1;
      end = rw whole at.2;
    }

larger : (len longer : ℕ) → len ≤ longer → block_size longer ≤ block_size len
larger len longer h = pow-le-pow_right (omega arith) (omega arith)

-- the prefix that two prefixes have in common, from where their addresses part
pub fork_low : (f low high : Prefix) → end_of low ≤ high.bits → IsSplit low.bits high.bits f.len → f.bits ≡ masked_bits low.bits f.len → IsLow f low
fork_low f low high ends split is =
    let from : f.bits ≤ low.bits = rw is (div-mul-le_self low.bits (block_size f.len)) in
    let long : f.len < low.len = elim (cases_lt f.len low.len) [
      | inl h ↦ h
      | inr h ↦ let wide = larger low.len f.len h in absurd (omega (arith, split.end))
    ] in
    low_from f low long from (omega (arith, split.lower))

pub fork_high : (f low high : Prefix) → end_of low ≤ high.bits → IsSplit low.bits high.bits f.len → f.bits ≡ masked_bits low.bits f.len → IsHigh f high
fork_high f low high ends split is =
    let half = block_pos (f.len + 1) in
    let long : f.len < high.len = elim (cases_lt f.len high.len) [
      | inl h ↦ h
      | inr h ↦ let gap = room (block_size f.len) f.bits high.bits f.no_host_bits (bits_whole high f.len h) (omega (arith, split.upper)) in absurd (omega (arith, split.end))
    ] in
    high_from f high long (omega (arith, split.upper)) (omega (arith, split.end))
