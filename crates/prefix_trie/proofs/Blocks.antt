-- Where the halves of a prefix begin and end.
use Rattle.std.proofs.Common.{◌≡◌, ℕ, ◌+◌, ◌%◌, ◌<◌, ◌≤◌, inl, inr, ◌∙◌, arith}
use Rattle.std.proofs.Math.Nat.{add-mod_right}
use Rattle.std.proofs.lemmas.Bool.{cases_lt}
use Rattle.net_prefix.specs.Cover.{block_size}
use Rattle.net_prefix.proofs.Blocks.{block_pos, finer, halves, room}
use Rattle.net_prefix.specs.declared.prefix.Prefix.{Prefix}
use Rattle.prefix_trie.specs.Places.{IsInside, IsLow, IsHigh, middle, end_of}

-- a prefix, its middle and its end are multiples of its half, and of each smaller block
pub bits_whole : (p : Prefix) (len : ℕ) → p.len ≤ len → p.bits % block_size len ≡ 0
bits_whole p len h = finer p.len len p.bits h p.no_host_bits

pub middle_whole : (p : Prefix) (len : ℕ) → p.len + 1 ≤ len → middle p % block_size len ≡ 0
middle_whole p len h = finer (p.len + 1) len (middle p) h (add-mod_right p.bits (block_size (p.len + 1)) ∙ bits_whole p (p.len + 1) (omega arith))

pub end_whole : (p : Prefix) (len : ℕ) → p.len ≤ len → end_of p % block_size len ≡ 0
end_whole p len h = finer p.len len (end_of p) h (add-mod_right p.bits (block_size p.len) ∙ p.no_host_bits)

-- a longer prefix that begins in a half lies in it
pub low_from : (p q : Prefix) → p.len < q.len → p.bits ≤ q.bits → q.bits < middle p → IsLow p q
low_from p q long from to = record {
  long = omega arith;
  from = from;
  to = room (block_size q.len) q.bits (middle p) q.no_host_bits (middle_whole p q.len (omega arith)) to;
}

pub high_from : (p q : Prefix) → p.len < q.len → middle p ≤ q.bits → q.bits < end_of p → IsHigh p q
high_from p q long from to =
    let short = q.short in
    let split = halves p.len (omega arith) in
    let fits = room (block_size q.len) q.bits (end_of p) q.no_host_bits (end_whole p q.len (omega arith)) to in
    record {
      long = omega arith;
      from = from;
      to = omega arith;
    }

-- the end of a prefix that has halves
pub end_by_halves : (p : Prefix) → p.len < 32 → end_of p ≡ middle p + block_size (p.len + 1)
end_by_halves p h = let split = halves p.len h in omega arith

-- the prefix at which two parts of a block are split lies in the block
pub fork_inside : (f a b : Prefix) (base len : ℕ) → base % block_size len ≡ 0 → IsLow f a → IsHigh f b → IsInside base len a → IsInside base len b → IsInside base len f
fork_inside f a b base len whole_base low high ia ib =
    let pos_a = block_pos a.len in
    let pos_b = block_pos b.len in
    let short_a = a.short in
    let ends = end_by_halves f (omega (arith, low.long)) in
    let long : len ≤ f.len = elim (cases_lt f.len len) [
      | inl h ↦ let gap = room (block_size len) base (middle f) whole_base (middle_whole f len (omega arith)) (omega (arith, low.to, ia.from)) in absurd (omega (arith, gap, high.from, ib.to))
      | inr h ↦ h
    ] in
    let from : base ≤ f.bits = elim (cases_lt f.bits base) [
      | inl h ↦ let gap = room (block_size f.len) f.bits base f.no_host_bits (finer len f.len base long whole_base) h in absurd (omega (arith, gap, ia.from, low.to, high.to, high.from))
      | inr h ↦ h
    ] in
    let stop : (base + block_size len) % block_size f.len ≡ 0 = finer len f.len (base + block_size len) long (add-mod_right base (block_size len) ∙ whole_base) in
    record {
      long = long;
      from = from;
      to = room (block_size f.len) f.bits (base + block_size len) f.no_host_bits stop (omega (arith, low.from, low.to, ia.to));
    }

-- what a half of a prefix covers lies where the prefix lies
pub low_inside : (p q : Prefix) (base len : ℕ) → IsInside base len p → IsLow p q → IsInside base len q
low_inside p q base len inside low =
    let short = q.short in
    let ends = end_by_halves p (omega (arith, low.long)) in
    record { long = omega (arith, inside.long, low.long); from = omega (arith, inside.from, low.from); to = omega (arith, inside.to, low.to) }

pub high_inside : (p q : Prefix) (base len : ℕ) → IsInside base len p → IsHigh p q → IsInside base len q
high_inside p q base len inside high =
    let short = q.short in
    let ends = end_by_halves p (omega (arith, high.long)) in
    record { long = omega (arith, inside.long, high.long); from = omega (arith, inside.from, high.from); to = omega (arith, inside.to, high.to) }
