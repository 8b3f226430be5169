use Rattle.std.proofs.Common.{◌≡◌, ◌<◌, ◌≤◌, ◌+◌, ◌-◌, ◌*◌, ◌/◌, ◌%◌, ◌^◌, ◌++◌, ℕ, zero, suc, List, length, take, drop, Result, Ok, Err, arith, sym, ap, ◌∙◌, length-append}
use Rattle.std.proofs.Math.Seq.{take-append_seam}
use Rattle.std.proofs.lemmas.List.{length-take-le}
use Rattle.std.proofs.lemmas.Nat.{mod-pow-add, div-add-mod'}
use Rattle.net_prefix.specs.declared.fault.PrefixFault.{PrefixFault}
use Rattle.net_prefix.specs.declared.fault.PrefixFault.TheVariants.{LenOver32, HostBits, Text, MaxRange, Cut}
use Rattle.net_prefix.specs.declared.prefix.Prefix.{Prefix}
use Rattle.net_prefix.specs.Cover.{masked_bits, block_size}
use Rattle.net_prefix.specs.PrefixFaults.{IsPrefix}
use Rattle.net_prefix.specs.PrefixSpelling.{address_octets, address_from, octets_for, spelling_of, Reads, FindsAgain}

-- What a prefix is spelled as is read again as the same prefix.

multiple_of_less : (n i j : ℕ) → j ≤ i → n % 2 ^ i ≡ 0 → n % 2 ^ j ≡ 0
multiple_of_less n i j le e =
    let split : i ≡ (i - j) + j = omega arith in
    let parts : n % 2 ^ i ≡ (n / 2 ^ j % 2 ^ (i - j)) * 2 ^ j + n % 2 ^ j = ap (λ k. n % 2 ^ k) split ∙ mod-pow-add n (i - j) j in
    omega (arith, parts, e)

-- the octets that are left out are 0
kept_octets : (bits n : ℕ) → n ≤ 4 → bits < 2 ^ 32 → bits % 2 ^ (32 - 8 * n) ≡ 0 → address_from (take n (address_octets bits)) ≡ bits
kept_octets bits zero le small e = omega arith
kept_octets bits (suc zero) le small e = omega arith
kept_octets bits (suc (suc zero)) le small e = omega arith
kept_octets bits (suc (suc (suc zero))) le small e = omega arith
kept_octets bits (suc (suc (suc (suc zero)))) le small e = omega arith
kept_octets bits (suc (suc (suc (suc (suc n))))) le small e = absurd (omega arith)

kept_address : (bits len : ℕ) → bits < 2 ^ 32 → IsPrefix bits len → address_from (take (octets_for len) (address_octets bits)) ≡ bits
kept_address bits len small h =
    let fits : octets_for len ≤ 4 = omega (arith, h.0) in
    let less : 32 - 8 * octets_for len ≤ 32 - len = omega (arith, h.0) in
    kept_octets bits (octets_for len) fits small (multiple_of_less bits (32 - len) _ less h.1)

masked_again : (bits len : ℕ) → IsPrefix bits len → masked_bits bits len ≡ bits
masked_again bits len h = omega (arith, div-add-mod' bits (block_size len), h.1)

length_kept : (bits len : ℕ) → len ≤ 32 → length (take (octets_for len) (address_octets bits)) ≡ octets_for len
length_kept bits len le = length-take-le (octets_for len) (address_octets bits) (omega arith)

kept_front : (bits len : ℕ) (rest : List ℕ) → len ≤ 32 → take (octets_for len) (take (octets_for len) (address_octets bits) ++ rest) ≡ take (octets_for len) (address_octets bits)
kept_front bits len rest le =
    let front = take (octets_for len) (address_octets bits) in
    ap (λ k. take k (front ++ rest)) (sym (length_kept bits len le)) ∙ take-append_seam front rest

pub reads_again : (bits len : ℕ) (rest : List ℕ) (answer : Result (Prefix × ℕ) PrefixFault) → bits < 2 ^ 32 → IsPrefix bits len → Reads (spelling_of bits len ++ rest) answer → FindsAgain bits len answer
reads_again bits len rest (Ok found) small h reads =
    let octets = spelling_of bits len ++ rest in
    let same_len : found.0.len ≡ len = reads.1 in
    let read_bits : found.0.bits ≡ masked_bits (address_from (take (octets_for len) (drop 1 octets))) len =
    reads.5 ∙ ap (λ l. masked_bits (address_from (take (octets_for l) (drop 1 octets))) l) same_len in
    let used : found.1 ≡ 1 + octets_for len = reads.3 ∙ ap (λ l. 1 + octets_for l) same_len in (
      read_bits
          ∙ ap (λ xs. masked_bits (address_from xs) len) (kept_front bits len rest h.0)
          ∙ ap (λ b. masked_bits b len) (kept_address bits len small h)
          ∙ masked_again bits len h,
      same_len,
      omega (arith, used, length_kept bits len h.0),
    )
reads_again bits len rest (Err LenOver32) small h reads = omega (arith, h.0, reads.1)
reads_again bits len rest (Err HostBits) small h reads = reads
reads_again bits len rest (Err Text) small h reads = reads
reads_again bits len rest (Err MaxRange) small h reads = reads
reads_again bits len rest (Err Cut) small h reads =
    let whole = length-append (spelling_of bits len) rest in
    omega (arith, reads.1, whole, length_kept bits len h.0)
