-- The order of prefixes as the order of numbers.
use Rattle.std.proofs.Common.{◌≡◌, ℕ, ◌+◌, ◌*◌, ◌<◌, inl, inr, refl, arith}
use Rattle.std.proofs.lemmas.Bool.{cases_order}
use Rattle.std.proofs.lemmas.Bool.Decides.{nat_tests}
use Rattle.std.specs.Ordering.{nat_cmp}
use Rattle.std.specs.declared.cmp.Ordering.TheVariants.{Less, Equal, Greater}
use Rattle.net_prefix.specs.declared.prefix.Prefix.{Prefix}
use Rattle.net_prefix.specs.PrefixOrder.{prefix_cmp}

-- where a prefix stands in the order, as one number
abbrev pub rank : Prefix → ℕ
rank p = 64 * p.bits + p.len

cmp_less : (a b : ℕ) → a < b → nat_cmp a b ≡ Less
cmp_less a b h = grind (arith, nat_tests)

cmp_greater : (a b : ℕ) → b < a → nat_cmp a b ≡ Greater
cmp_greater a b h = grind (arith, nat_tests)

cmp_equal : (a : ℕ) → nat_cmp a a ≡ Equal
cmp_equal a = grind (arith, nat_tests)

pub cmp_below : (p q : Prefix) → rank p < rank q → prefix_cmp p q ≡ Less
cmp_below p q h =
    let short = p.short in
    let other = q.short in
    elim (cases_order p.bits q.bits) [
      | inl e ↦ let len = cmp_less p.len q.len (omega arith) in rw (e, cmp_equal q.bits) len
      | inr (inl l) ↦ let bits = cmp_less p.bits q.bits l in rw bits refl
      | inr (inr g) ↦ absurd (omega arith)
    ]

pub cmp_above : (p q : Prefix) → rank q < rank p → prefix_cmp p q ≡ Greater
cmp_above p q h =
    let short = p.short in
    let other = q.short in
    elim (cases_order p.bits q.bits) [
      | inl e ↦ let len = cmp_greater p.len q.len (omega arith) in rw (e, cmp_equal q.bits) len
      | inr (inl l) ↦ absurd (omega arith)
      | inr (inr g) ↦ let bits = cmp_greater p.bits q.bits g in rw bits refl
    ]

pub cmp_same : (p : Prefix) → prefix_cmp p p ≡ Equal
cmp_same p = rw (cmp_equal p.bits) (cmp_equal p.len)

-- what stands before another has a lower number
pub less_rank : (p q : Prefix) → prefix_cmp p q ≡ Less → rank p < rank q
less_rank p q h =
    let short = p.short in
    let other = q.short in
    elim (cases_order (rank p) (rank q)) [
      | inl e ↦
          let bits : p.bits ≡ q.bits = omega arith in
          let len : p.len ≡ q.len = omega arith in
          let same : prefix_cmp p q ≡ Equal = rw (bits, len, cmp_equal q.bits) (cmp_equal q.len) in
          absurd cc
      | inr (inl l) ↦ l
      | inr (inr g) ↦ let above = cmp_above p q g in absurd cc
    ]
