-- What a prefix covers lies in its block, and stands in one stretch of the order.
use Rattle.std.proofs.Common.{◌≡◌, ◌⊎◌, inl, inr, ◌+◌, ◌/◌, ◌<◌, ◌≤◌, sym, arith}
use Rattle.std.proofs.Math.Nat.{div-mul-le_self, lt-div-mul-add}
use Rattle.std.proofs.lemmas.Bool.{cases_lt, cases_order}
use Rattle.std.specs.declared.cmp.Ordering.TheVariants.{Less}
use Rattle.net_prefix.specs.Cover.{Covers, block_size}
use Rattle.net_prefix.specs.PrefixOrder.{prefix_cmp}
use Rattle.net_prefix.specs.declared.prefix.Prefix.{Prefix}
use Rattle.net_prefix.proofs.Blocks.{block_pos, divided, finer, room, whole}
use Rattle.net_prefix.proofs.Prefixes.{same_prefix}
use Rattle.net_prefix.proofs.Ranks.{rank, cmp_below, less_rank}

-- the first is no longer, and the second begins in its block
record IsWithin (p q : Prefix) : Type 0 where
  long : p.len ≤ q.len
  from : p.bits ≤ q.bits
  to : q.bits < p.bits + block_size p.len

within : (p q : Prefix) → Covers p.bits p.len q.bits q.len → IsWithin p q
within p q h =
    let at = whole (block_size p.len) p.bits p.no_host_bits in
    let low = rw (sym h.1) at (div-mul-le_self q.bits (block_size p.len)) in
    let high = rw (sym h.1) at (lt-div-mul-add {a = q.bits} {b = block_size p.len} (block_pos p.len)) in
    record { long = h.0; from = omega (arith, low, at); to = omega (arith, high, at) }

covering : (p q : Prefix) → IsWithin p q → Covers p.bits p.len q.bits q.len
covering p q h =
    let at = whole (block_size p.len) p.bits p.no_host_bits in
    (h.long, sym (divided (p.bits / block_size p.len) (block_size p.len) q.bits (omega (arith, h.from)) (omega (arith, h.to))))

-- a prefix is the first of those that it covers
pub first_of_covered : (p q : Prefix) → Covers p.bits p.len q.bits q.len → (p ≡ q) ⊎ (prefix_cmp p q ≡ Less)
first_of_covered p q h =
    let at = within p q h in
    let short = p.short in
    let other = q.short in
    elim (cases_order (rank p) (rank q)) [
      | inl e ↦ inl (same_prefix p q (omega (arith, e)) (omega (arith, e)))
      | inr (inl l) ↦ inr (cmp_below p q l)
      | inr (inr g) ↦ absurd (omega (arith, at.from, at.long))
    ]

-- what begins in the block of a prefix, and behind a prefix that it covers, is as long
as_long : (p a b : Prefix) → IsWithin p a → rank a < rank b → b.bits < p.bits + block_size p.len → p.bits ≤ b.bits → p.len ≤ b.len
as_long p a b at less to from =
    let short = a.short in
    let other = b.short in
    elim (cases_lt b.len p.len) [
      | inl h ↦ elim (cases_lt p.bits b.bits) [
        | inl apart ↦ let gap = room (block_size p.len) p.bits b.bits p.no_host_bits (finer b.len p.len b.bits (omega arith) b.no_host_bits) apart in absurd (omega (arith, gap))
        | inr same ↦ absurd (omega (arith, at.from, at.long))
      ]
      | inr h ↦ h
    ]

-- what stands between two that it covers it covers
pub covers_between : (p a b c : Prefix) → Covers p.bits p.len a.bits a.len → Covers p.bits p.len c.bits c.len → prefix_cmp a b ≡ Less → prefix_cmp b c ≡ Less
    → Covers p.bits p.len b.bits b.len
covers_between p a b c first last low high =
    let from_a = within p a first in
    let to_c = within p c last in
    let ab = less_rank a b low in
    let bc = less_rank b c high in
    let short_a = a.short in
    let short_b = b.short in
    let short_c = c.short in
    let from : p.bits ≤ b.bits = omega (arith, from_a.from) in
    let to : b.bits < p.bits + block_size p.len = omega (arith, to_c.to) in
    covering p b (record { long = as_long p a b from_a ab to from; from = from; to = to })

nested : (p q r : Prefix) → p.len ≤ q.len → IsWithin p r → IsWithin q r → Covers p.bits p.len q.bits q.len
nested p q r le outer inner =
    let from : p.bits ≤ q.bits = elim (cases_lt q.bits p.bits) [
      | inl h ↦ let gap = room (block_size q.len) q.bits p.bits q.no_host_bits (finer p.len q.len p.bits le p.no_host_bits) h in absurd (omega (arith, gap, outer.from, inner.to))
      | inr h ↦ h
    ] in
    covering p q (record { long = le; from = from; to = omega (arith, inner.from, outer.to) })

-- of two that cover a third one covers the other
pub covers_of_one : (p q r : Prefix) → Covers p.bits p.len r.bits r.len → Covers q.bits q.len r.bits r.len
    → Covers p.bits p.len q.bits q.len ⊎ Covers q.bits q.len p.bits p.len
covers_of_one p q r hp hq =
    elim (cases_lt q.len p.len) [
      | inl h ↦ inr (nested q p r (omega arith) (within q r hq) (within p r hp))
      | inr h ↦ inl (nested p q r h (within p r hp) (within q r hq))
    ]
