use Rattle.std.proofs.Common.{◌≡◌, ◌==◌, ◌&&◌, ℕ, refl, arith}
use Rattle.std.specs.Ordering.{nat_cmp, ordering_then, is_eq}
use Rattle.std.specs.declared.cmp.Ordering.{Ordering}
use Rattle.std.specs.declared.cmp.Ordering.TheVariants.{Less, Equal, Greater}
use Rattle.std.specs.BTreeMap.{is_at}
use Rattle.std.proofs.lemmas.Bool.Decides.{nat_tests}
use Rattle.net_prefix.specs.declared.prefix.Prefix.{Prefix}
use Rattle.net_prefix.specs.PrefixOrder.{prefix_cmp}

-- Which prefixes the order of prefixes has at one place.

-- numbers at one place are equal
pub is_eq-nat_cmp : (a b : ℕ) → is_eq (nat_cmp a b) ≡ (b == a)
is_eq-nat_cmp a b = grind (arith, nat_tests)

-- two comparisons one after another
is_eq-ordering_then : (o p : Ordering) → is_eq (ordering_then o p) ≡ (is_eq o && is_eq p)
is_eq-ordering_then Less p = refl
is_eq-ordering_then Equal p = refl
is_eq-ordering_then Greater p = refl

-- the prefixes at the place of a prefix have its address and its length
pub is_at-prefix_cmp : (prefix other : Prefix) → is_at (prefix_cmp prefix) other ≡ (other.bits == prefix.bits && other.len == prefix.len)
is_at-prefix_cmp prefix other =
    rw (is_eq-ordering_then, is_eq-nat_cmp prefix.bits other.bits, is_eq-nat_cmp prefix.len other.len) refl
