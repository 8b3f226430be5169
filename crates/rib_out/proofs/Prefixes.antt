-- Laws of `is_prefix`, for those who follow one prefix through a table.
use Rattle.std.proofs.Common.{◌≡◌, ℕ, true, refl, arith}
use Rattle.std.specs.declared.cmp.Ordering.{Ordering}
use Rattle.std.specs.declared.cmp.Ordering.TheVariants.{Less, Equal, Greater}
use Rattle.std.specs.Ordering.{nat_cmp, ordering_then, is_eq}
use Rattle.std.proofs.lemmas.Bool.Decides.{nat_tests}
use Rattle.net_prefix.specs.declared.prefix.Prefix.{Prefix}
use Rattle.rib_out.specs.Held.{is_prefix}

-- two numbers that compare as equal are one number
pub same_from_cmp : (a b : ℕ) → is_eq (nat_cmp a b) ≡ true → a ≡ b
same_from_cmp a b h = grind (arith, nat_tests)

same_from_pair : (o p : Ordering) → is_eq (ordering_then o p) ≡ true → (is_eq o ≡ true) × (is_eq p ≡ true)
same_from_pair Less p h = (h, absurd cc)
same_from_pair Equal p h = (refl, h)
same_from_pair Greater p h = (h, absurd cc)

-- a prefix is itself
pub is_prefix-refl : (p : Prefix) → is_prefix p p ≡ true
is_prefix-refl p = grind (arith, nat_tests)

-- one prefix has one address and one length
pub parts_from_is_prefix : (p q : Prefix) → is_prefix p q ≡ true → (p.bits ≡ q.bits) × (p.len ≡ q.len)
parts_from_is_prefix p q h =
    let parts = same_from_pair (nat_cmp p.bits q.bits) (nat_cmp p.len q.len) h in
    (same_from_cmp p.bits q.bits parts.0, same_from_cmp p.len q.len parts.1)
